pub mod CommandAnswers
pub mod OneAnswer
