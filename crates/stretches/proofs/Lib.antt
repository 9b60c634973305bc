pub mod StretchLaws
