pub mod CopiedOverLaws
pub mod ExchangeFollowLaws
pub mod LineByLineLaws
pub mod LineToldLaws
pub mod ReadBackConsistent
pub mod ReadBackEqual
pub mod ReadBackLaws
