pub mod WalkedPhrases
pub mod WalkedLaws
