pub mod PrintedNumbers
