pub mod Answered
pub mod RoundTripProof
pub mod FewRecords
pub mod Refused
pub mod FirstStroke
