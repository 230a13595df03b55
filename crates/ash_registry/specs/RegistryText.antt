-- The text of a registration: one line for each accepted registration, in order.
pub use Rattle.ash_registrations.specs.Text.{line_of, text_of}
