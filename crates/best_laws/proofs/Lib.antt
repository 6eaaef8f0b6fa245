mod StopLaws
mod SameLaws
mod AnswerLaws
