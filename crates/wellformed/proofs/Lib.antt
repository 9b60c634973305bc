pub mod LightLaws
pub mod PartLaws
pub mod WorkLaws
pub mod SoundLaws
