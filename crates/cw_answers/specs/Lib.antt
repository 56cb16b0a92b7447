pub mod AnswerLines
pub mod AnswersText
pub mod Faults
pub mod Reading
