-- This definition says which files stand where a standard stream belongs.
use Rattle.std.specs.Prelude.{◌≤ℤ◌, pos}
use Rattle.std.specs.Fd.{file_raw_fd}
use Rattle.std.specs.declared.fs.File.{File}

-- `IsStandard f`: the descriptor of the file is at most 2, as those of standard input, output and error are.
abbrev pub IsStandard : File → Type 0
IsStandard f = file_raw_fd f ≤ℤ pos 2
