-- The room of a session's buffers.
use Rattle.std.specs.Prelude.{◌≤◌, vec_capacity}
use Rattle.ash_lines.specs.Lines.{max_line_bytes, max_arguments}
use Rattle.ash_lines.specs.Reading.{max_prefix_bytes}
use Rattle.ash_serve.specs.declared.buffers.Buffers.{Buffers}
use Rattle.ash_serve.specs.declared.session.Session.{Session}

-- Buffers have room for a line, for its arguments and for the prefix of a source.
pub record HasRoom (buffers : Buffers) : Type 0 where
  pub line : max_line_bytes ≤ vec_capacity buffers.line
  pub arguments : max_arguments ≤ vec_capacity buffers.arguments
  pub prefix : max_prefix_bytes ≤ vec_capacity buffers.prefix

-- so do those of a session
abbrev pub HasSessionRoom : Session → Type 0
HasSessionRoom session = HasRoom session.buffers
