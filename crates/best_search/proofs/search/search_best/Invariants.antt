use Rattle.best_search.proofs.search.search_best.Given as goal

-- the type that is passed says where this search starts
abbrev pub ghosts-explored : goal.ghosts-explored
ghosts-explored g a = record { start = a.source.now }
