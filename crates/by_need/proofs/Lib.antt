pub mod WaitLaws
pub mod RoundLaws
