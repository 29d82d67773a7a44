pub mod ReadBackLaws
pub mod ReadBackPlainRows
pub mod ReadBackRowLines
pub mod ReadBackRows
pub mod ReadBackWithRows
pub mod WritableAgainLaws
pub mod WritableLaws
