pub mod Faults
pub mod NegotiationLines
pub mod RowLines
pub mod Run
