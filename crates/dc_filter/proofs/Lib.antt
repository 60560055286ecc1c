-- The modules of the lemmas.
pub mod PatternLemmas
pub mod FilterLemmas
pub mod LawProofs
