pub mod ByteLoops
pub mod AnswerLaws
pub mod TextLength
pub mod LinesLaws
