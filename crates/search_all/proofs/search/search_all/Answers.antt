use Rattle.search_all.proofs.search.search_all.Goals as goal

pub found-requires : goal.found-requires
found-requires g c = c.in_ok-ended.ensures.places

pub returns : goal.returns
returns g c = c.found.ensures.found c.args.frozen.now (record { finished = c.in_ok-ended.ensures.finished; spent = c.in_ok-ended.ensures.spent; over = c.in_ok-ended.ensures.over })
