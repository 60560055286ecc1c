-- What becomes of a sink that a text is written to.
use Rattle.std.specs.Prelude.{◌≡◌, ℕ, ◌++◌, List, Option, Result, OnOk, OnErr}
use Rattle.std.specs.Option.{option_map}
use Rattle.dc_fs.specs.Causes.{HasCause}
use Rattle.dc_fs.specs.Temporaries.{WriteStops}
use Rattle.dc_fs.specs.declared.errors.SinkFault.{SinkFault}
use Rattle.dc_fs.specs.declared.sink.Sink.{Ghosts}

-- what a sink tells: what it has taken, the most that it takes, and its count of faults
pub record SinkView : Type 0 where
  pub bytes : Option (List ℕ)
  pub limit : Option ℕ
  pub faults : ℕ

-- the view of a sink, by the members of its trait
abbrev pub sink_view : {O : Type 0} → Ghosts O → O → SinkView
sink_view of out = record { bytes = of.bytes out; limit = of.limit out; faults = of.faults out }

-- the sink took the text, or after a fault a front of it
pub record Writes (text : List ℕ) (old new : SinkView) (result : Result (Unit {0}) SinkFault) : Type 0 where
  pub taken : OnOk result (new.bytes ≡ option_map (λ bytes. bytes ++ text) old.bytes)
  pub stopped : OnErr result (WriteStops old.limit text old.bytes new.bytes)
  pub limit : new.limit ≡ old.limit
  pub cause : HasCause old.faults new.faults result (record {})
