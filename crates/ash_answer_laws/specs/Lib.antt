pub mod TakenAnswers
pub mod ChainedRequests
