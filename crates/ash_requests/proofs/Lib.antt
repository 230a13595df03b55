pub mod Computing
mod Refused
mod Counted
mod Determined
mod Numbers
mod Fits
mod Budgets
mod AnswersInOrder
