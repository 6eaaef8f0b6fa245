use Rattle.std.proofs.Common.{◌≡◌, ◌++◌, length, map}
use Rattle.kernel_form.specs.Fields.{rest_of, closing, still_open}
use Rattle.kernel_form.proofs.records.close_records.Given as goal

abbrev pub invariant-records : goal.invariant-records
invariant-records l =
    record {
      bytes : l.out.items ++ closing (map rest_of l.opened) ≡ l.initial.out.items ++ closing (map rest_of l.initial.opened);
      opened : still_open (map rest_of l.opened) ≡ still_open (map rest_of l.initial.opened);
    }

abbrev pub decreases-records : goal.decreases-records
decreases-records l = length l.opened
