pub mod Root
pub mod RootLaws
