pub mod RingLaws
pub mod SortLaws
pub mod CountLaws
pub mod CrossingLaws
