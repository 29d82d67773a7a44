pub mod LineTextsPassed
pub mod LineTextsRid
pub mod OfferCallsFilled
pub mod SaidPutting
