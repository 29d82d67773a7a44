pub mod ReadBack
pub mod Writable
pub mod WritableAgain
