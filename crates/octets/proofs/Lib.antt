pub mod LetterLaws
pub mod PastLaws
