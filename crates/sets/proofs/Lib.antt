pub mod CardRules
pub mod StoreLaws
pub mod ClassLaws
pub mod RowLaws
pub mod MeetLaws
pub mod SortedLaws
pub mod LikeLaws
