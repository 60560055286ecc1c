-- What workers own, and what the stores of a copy keep of it.
use Rattle.std.specs.Prelude.{◌≡◌, ℕ, ◌+◌, ◌-◌, ◌≤◌, ◌<◌, List, length, Bool, true, ◌&&◌, Option, sum_by}
use Rattle.std.specs.Option.{is_some}
use Rattle.std.specs.List.{list_all}
use Rattle.dc_attrs.specs.Trees.{Tree}
use Rattle.dc_fs.specs.Causes.{counted, steady_at}
use Rattle.dc_fs.specs.Views.{View}
use Rattle.dc_fs.specs.Rest.{Rest}
use Rattle.dc_fs.specs.declared.store.Store as store
use Rattle.dc_fs.specs.declared.desk.Desk as desk
use Rattle.dc_pool.specs.Counts.{last, below_last, Gained}
use Rattle.dc_decide.specs.Plans.{Decision}
use Rattle.dc_pieces.specs.declared.piece.Piece.{Piece}
use Rattle.dc_crew.specs.Jobs.{Job, job_of}
use Rattle.dc_crew.specs.declared.crew.Place.{Place}

-- what is known of the two stores while workers run: the source's tree, where it is told; whether the target tells the bytes of
-- temporaries; and whether no call of either fails
pub record Scene : Type 0 where
  pub tree : Option Tree
  pub tells : Bool
  pub steady : Bool

-- what these two stores are
abbrev pub scene_of : {S T : Type 0} → store.Ghosts S → store.Ghosts T → S → T → Scene
scene_of from to source target = record { tree = from.tree source; tells = is_some (to.tree target); steady = from.steady source && to.steady target }

-- what is copied in a scene
abbrev pub job_in : Scene → List Decision → List Piece → Job
job_in scene items pieces = job_of scene.tree scene.tells items pieces

module _ {S D P : Type 0} where
  -- nothing in the slot fails, and nothing has failed
  pub record IsCalm (source : store.Ghosts S) (desks : desk.Ghosts D P) (place : Place S D P) : Type 0 where
    pub source_steady : source.steady place.source ≡ true
    pub desk_steady : desks.steady place.desk ≡ true
    pub no_source_faults : source.faults place.source ≡ 0
    pub no_desk_faults : desks.faults place.desk ≡ 0

  -- the slot reads the source's tree, its desk tells as the target does, its buffer has this size, and nothing in it fails where
  -- both stores are steady
  pub record IsFit (source : store.Ghosts S) (desks : desk.Ghosts D P) (scene : Scene) (size : ℕ) (place : Place S D P) : Type 0 where
    pub tree : source.tree place.source ≡ scene.tree
    pub tells : desks.tells place.desk ≡ scene.tells
    pub room : length place.buffer.items ≡ size
    pub calm : scene.steady ≡ true → IsCalm source desks place

  -- how often the fork has failed, and the desk; and how many temporaries were made
  abbrev pub source_faults : store.Ghosts S → Place S D P → ℕ
  source_faults source place = source.faults place.source

  abbrev pub desk_faults : desk.Ghosts D P → Place S D P → ℕ
  desk_faults desks place = desks.faults place.desk

  abbrev pub slot_makes : desk.Ghosts D P → Place S D P → ℕ
  slot_makes desks place = desks.made place.desk

  -- how often work in the slot has failed
  abbrev pub slot_faults : store.Ghosts S → desk.Ghosts D P → Place S D P → ℕ
  slot_faults source desks place = counted (source.faults place.source) (desks.faults place.desk)

  -- nothing has failed and nothing was made in the slot
  pub record IsFresh (source : store.Ghosts S) (desks : desk.Ghosts D P) (place : Place S D P) : Type 0 where
    pub no_source_faults : source.faults place.source ≡ 0
    pub no_desk_faults : desks.faults place.desk ≡ 0
    pub none_made : desks.made place.desk ≡ 0

module _ {S : Type 0} where
  -- the slots' counts come to at least so many, unless one of them stands at its last value
  abbrev pub ComeTo : (S → ℕ) → List S → ℕ → Type 0
  ComeTo f slots n = list_all (below_last f) slots ≡ true → n ≤ sum_by f slots

module _ {S D P : Type 0} where
  -- while waves ran over the slots, at least so many failures were counted in them, and so many temporaries
  abbrev pub FailedIn : store.Ghosts S → desk.Ghosts D P → List (Place S D P) → List (Place S D P) → ℕ → Type 0
  FailedIn source desks old new n = Gained (slot_faults source desks) n old new

  abbrev pub MadeIn : desk.Ghosts D P → List (Place S D P) → List (Place S D P) → ℕ → Type 0
  MadeIn desks old new n = Gained (slot_makes desks) n old new

-- after so many desks were opened
abbrev pub with_desks_out : ℕ → Rest → Rest
with_desks_out desks rest = record rest { desks_out = rest.desks_out + desks }

-- after so many desks came back, with so many temporaries and faults in all
abbrev pub with_desks_back : ℕ → ℕ → ℕ → Rest → Rest
with_desks_back desks made faults rest = record rest {
  scratch = counted rest.scratch made;
  created = counted rest.created made;
  desks_out = rest.desks_out - desks;
  desk_faults = counted rest.desk_faults faults;
}

-- what a source keeps besides its count of the faults of forks
abbrev pub but_forks : Rest → Rest
but_forks rest = record rest { fork_faults = 0 }

-- so many desks were opened, and nothing else was done
pub record OpensDesks (desks : ℕ) (old new : View) : Type 0 where
  pub tree : new.tree ≡ old.tree
  pub rest : new.rest ≡ with_desks_out desks old.rest
  pub faults : old.faults ≤ new.faults
  pub calm : steady_at new.steady new.faults ≡ steady_at old.steady old.faults

-- forks came back with at least so many faults, which are counted, and nothing else was done. A count falls only to its last value
pub record TakesForksBack (more : ℕ) (old new : View) : Type 0 where
  pub tree : new.tree ≡ old.tree
  pub rest : but_forks new.rest ≡ but_forks old.rest
  pub forks : counted old.rest.fork_faults more ≤ new.rest.fork_faults
  pub faults : new.faults ≡ old.faults
  pub steady : new.steady ≡ old.steady

-- so many desks came back, with so many temporaries and faults in all, and nothing else was done
pub record TakesDesksBack (desks made failed : ℕ) (old new : View) : Type 0 where
  pub tree : new.tree ≡ old.tree
  pub rest : with_desks_back 0 0 0 new.rest ≡ with_desks_back desks made failed old.rest
  pub faults : new.faults ≡ old.faults
  pub steady : new.steady ≡ old.steady

-- nothing has landed, all desks are back, and no count has fallen, but to its last value
pub record KeepsTarget (old new : View) : Type 0 where
  pub tree : new.tree ≡ old.tree
  pub landed : new.rest.landed ≡ old.rest.landed
  pub desks_out : new.rest.desks_out ≡ old.rest.desks_out
  pub rename_faults : new.rest.rename_faults ≡ old.rest.rename_faults
  pub fork_faults : new.rest.fork_faults ≡ old.rest.fork_faults
  pub scratch : counted old.rest.scratch 0 ≤ new.rest.scratch
  pub created : counted old.rest.created 0 ≤ new.rest.created
  pub desk_faults : counted old.rest.desk_faults 0 ≤ new.rest.desk_faults
  pub faults : old.faults ≤ new.faults
  pub calm : steady_at new.steady new.faults ≡ steady_at old.steady old.faults

-- the failures of forks and desks rose together by at least so many, unless one of the two counts stands at its last value
abbrev pub RoseTogether : Rest → Rest → Rest → Rest → ℕ → Type 0
RoseTogether source source_now target target_now n =
    source_now.fork_faults < last → target_now.desk_faults < last → source.fork_faults + target.desk_faults + n ≤ source_now.fork_faults + target_now.desk_faults

-- at least so many more temporaries are counted, as scratch and as created
pub record MadeMore (old new : Rest) (n : ℕ) : Type 0 where
  pub scratch : counted old.scratch n ≤ new.scratch
  pub created : counted old.created n ≤ new.created

-- neither count of failures of forks and desks has risen, nor stands at its last value
pub record StandStill (source source_now target target_now : Rest) : Type 0 where
  pub fork_faults : source_now.fork_faults ≡ source.fork_faults
  pub desk_faults : target_now.desk_faults ≡ target.desk_faults
  pub forks_below : source_now.fork_faults < last
  pub desks_below : target_now.desk_faults < last
