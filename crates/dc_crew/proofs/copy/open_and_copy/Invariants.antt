use Rattle.dc_crew.specs.Slots.{scene_of}
use Rattle.dc_crew.proofs.copy.open_and_copy.Given as goal

-- what the waves know of the two stores
abbrev pub ghosts-waves_over : goal.ghosts-waves_over
ghosts-waves_over g a = record { scene = scene_of g.S.Store g.T.Store a.source.now a.target.now }
