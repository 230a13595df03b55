-- Boxes that are taken from a pool, one after another.
pub use Rattle.ash_run_steps.specs.Drawing.{Drawing, Short, Enough, with_first, draw_then, draw_all, kinds_of}
