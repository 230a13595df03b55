-- What the clauses of a kind of host object cite.
pub use Rattle.ash_host.specs.Calls
pub use Rattle.ash_host.specs.Limits
pub use Rattle.ash_host.specs.Saved
