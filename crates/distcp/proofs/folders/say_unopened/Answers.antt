use Rattle.distcp.proofs.folders.say_unopened.Goals as goal

pub returns-in-BadCatalogue : goal.returns-in-BadCatalogue
returns-in-BadCatalogue g c = rw (c.in-BadCatalogue.is, ← c.format.ensures.text) c.say_of-in-BadCatalogue.ensures.said

pub returns-in-Fault : goal.returns-in-Fault
returns-in-Fault g c = rw c.in-Fault.is c.say_of-in-Fault.ensures.said

pub returns-in-Memory : goal.returns-in-Memory
returns-in-Memory g c = rw c.in-Memory.is c.say.ensures.said
