-- These definitions say what a file of the system shows as a disk.
use Rattle.std.specs.Prelude.{ℕ}
use Rattle.std.specs.declared.fs.File.{File}
use Rattle.ash_disk.specs.declared.file.FileDisk.{FileDisk}

-- `file_failures f` is how often the file has failed.
abbrev pub file_failures : FileDisk → ℕ
file_failures f = f.failures

-- `file_of f` is the file.
abbrev pub file_of : FileDisk → File
file_of f = f.file
