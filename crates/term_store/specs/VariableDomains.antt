-- What a variable may be, as the store answers it.
use Rattle.oz_domains.specs.Domains.{IntSet, single}
use Rattle.term_store.specs.declared.variable_domain.VariableDomain.{VariableDomain}
use Rattle.term_store.specs.declared.variable_domain.VariableDomain.TheVariants.{Integer, Told}

-- the integers that it may be
abbrev pub set_of : VariableDomain → IntSet
set_of (Integer i) = single i
set_of (Told s) = s.now
