pub mod AttributeCopies
pub mod AttributeEqual
pub mod FeedbackLaws
pub mod RandomMsidLaws
pub mod RtpMapRates
