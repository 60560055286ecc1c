-- Which calls on an object in memory fail.
use Rattle.std.specs.Prelude.{◌≡◌, ◌↔◌, ℕ, Bool, true, false, cond, ◌&&◌, ◌||◌, nat_le, nat_lt, List, [], ◌∷◌, find, Option, Some, None, Result, IsErrOf, IsTrue}
use Rattle.dc_fs.specs.Causes.{raised, HasCause, steady_at}
use Rattle.dc_memfs.specs.declared.fails.Which.{Which}
use Rattle.dc_memfs.specs.declared.fails.Which.TheVariants as which_is
use Rattle.dc_memfs.specs.declared.fails.Fail.{Fail}
use Rattle.dc_memfs.specs.declared.calls.Counts.{Counts}
use Rattle.dc_memfs.specs.declared.calls.Calls.{Calls}
use Rattle.dc_memfs.specs.declared.calls.Fate.{Fate}
use Rattle.dc_memfs.specs.declared.calls.Fate.TheVariants.{Goes, Fails, FailsDone}

-- no call was made, of any kind
abbrev pub none_made : Counts
none_made = record { any = 0; kind = 0; status = 0; list = 0; read = 0; checksum = 0; open_desk = 0; make_dir = 0; remove = 0; rename = 0; set_attrs = 0; land = 0; sweep = 0; create = 0; append = 0; digest = 0; seal = 0 }

-- no call was made, and none has failed
abbrev pub no_calls : Calls
no_calls = record { counts = none_made; faults = 0 }

-- how many calls of a kind were made; `Any` counts each call
abbrev pub number_of : Which → Counts → ℕ
number_of which_is.Any c = c.any
number_of which_is.Kind c = c.kind
number_of which_is.Status c = c.status
number_of which_is.List c = c.list
number_of which_is.Read c = c.read
number_of which_is.Checksum c = c.checksum
number_of which_is.OpenDesk c = c.open_desk
number_of which_is.MakeDir c = c.make_dir
number_of which_is.Remove c = c.remove
number_of which_is.Rename c = c.rename
number_of which_is.SetAttrs c = c.set_attrs
number_of which_is.Land c = c.land
number_of which_is.Sweep c = c.sweep
number_of which_is.Create c = c.create
number_of which_is.Append c = c.append
number_of which_is.Digest c = c.digest
number_of which_is.Seal c = c.seal

-- the counts after one more call of a kind
abbrev pub counted_call : Which → Counts → Counts
counted_call which_is.Any c = record c { any = raised c.any }
counted_call which_is.Kind c = record c { any = raised c.any; kind = raised c.kind }
counted_call which_is.Status c = record c { any = raised c.any; status = raised c.status }
counted_call which_is.List c = record c { any = raised c.any; list = raised c.list }
counted_call which_is.Read c = record c { any = raised c.any; read = raised c.read }
counted_call which_is.Checksum c = record c { any = raised c.any; checksum = raised c.checksum }
counted_call which_is.OpenDesk c = record c { any = raised c.any; open_desk = raised c.open_desk }
counted_call which_is.MakeDir c = record c { any = raised c.any; make_dir = raised c.make_dir }
counted_call which_is.Remove c = record c { any = raised c.any; remove = raised c.remove }
counted_call which_is.Rename c = record c { any = raised c.any; rename = raised c.rename }
counted_call which_is.SetAttrs c = record c { any = raised c.any; set_attrs = raised c.set_attrs }
counted_call which_is.Land c = record c { any = raised c.any; land = raised c.land }
counted_call which_is.Sweep c = record c { any = raised c.any; sweep = raised c.sweep }
counted_call which_is.Create c = record c { any = raised c.any; create = raised c.create }
counted_call which_is.Append c = record c { any = raised c.any; append = raised c.append }
counted_call which_is.Digest c = record c { any = raised c.any; digest = raised c.digest }
counted_call which_is.Seal c = record c { any = raised c.any; seal = raised c.seal }

-- the call that makes the second counts of the first is the one of its kind that the entry counts to
abbrev pub is_nth : Counts → Counts → Fail → Bool
is_nth before now fail = nat_lt (number_of fail.which before) fail.nth && nat_le fail.nth (number_of fail.which now)

-- the one that the entry counts to was made before, and all calls after it are to fail
abbrev pub is_later : Counts → Fail → Bool
is_later before fail = fail.then_all && nat_le 1 fail.nth && nat_le fail.nth (number_of fail.which before)

-- the entry names the call
abbrev pub is_named : Counts → Counts → Fail → Bool
is_named before now fail = is_nth before now fail || is_later before fail

-- what the entry that decides makes of the call; without one it goes through
abbrev pub fate_by : Counts → Counts → Option Fail → Fate
fate_by before now None = Goes
fate_by before now (Some fail) = cond (is_nth before now fail && fail.done) FailsDone Fails

-- what becomes of the next call, of this kind: the first entry that names it decides
abbrev pub next_fate : List Fail → Which → Calls → Fate
next_fate list which calls = let now = counted_call which calls.counts in fate_by calls.counts now (find (is_named calls.counts now) list)

-- the call fails
abbrev pub fails : Fate → Bool
fails Goes = false
fails Fails = true
fails FailsDone = true

-- the next call, of this kind, fails
abbrev pub fails_next : List Fail → Which → Calls → Bool
fails_next list which calls = fails (next_fate list which calls)

-- the calls after one more, which is a fault where it fails
abbrev pub after_call : List Fail → Which → Calls → Calls
after_call list which calls = record { counts = counted_call which calls.counts; faults = cond (fails_next list which calls) (raised calls.faults) calls.faults }

-- no call fails by the list
abbrev pub is_steady : List Fail → Bool
is_steady [] = true
is_steady (fail ∷ list) = false

-- a call by the list of its object: the answer is the fault exactly where the list names the call, its cause is counted, and
-- a steady object answers none
pub record FailsByList {T E : Type 0} (list : List Fail) (which : Which) (steady : Bool) (old new : Calls) (result : Result T E) (fault : E) : Type 0 where
  pub named : IsErrOf result fault ↔ IsTrue (fails_next list which old)
  pub cause : HasCause old.faults new.faults result fault
  pub calm : steady_at steady new.faults ≡ steady_at steady old.faults
  pub never : steady ≡ true → IsErrOf result fault → ⊥
