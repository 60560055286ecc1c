pub mod StepLemmas
pub mod KeepLemmas
pub mod PlaceLemmas
pub mod SettingLemmas
pub mod MakeLemmas
pub mod LandLemmas
pub mod MoveLemmas
