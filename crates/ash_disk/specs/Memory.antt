-- These definitions say what a disk in memory shows.
use Rattle.std.specs.Prelude.{ℕ, List, length, reverse, take}
use Rattle.ash_disk.specs.DiskCalls.{file_after, synced_after, MayLeave}
use Rattle.ash_disk.specs.declared.memory.MemoryDisk.{MemoryDisk}

-- `memory_bytes m` are the bytes that a read gives.
abbrev pub memory_bytes : MemoryDisk → List ℕ
memory_bytes m = m.bytes.items

-- `memory_clock m` is how many writes and syncs have succeeded.
abbrev pub memory_clock : MemoryDisk → ℕ
memory_clock m = length m.calls.items

-- `memory_failures m` is how often the disk has failed.
abbrev pub memory_failures : MemoryDisk → ℕ
memory_failures m = m.failures

-- A crash after so many calls may leave the image.
abbrev pub MemoryLeaves : MemoryDisk → ℕ → List ℕ → Type 0
MemoryLeaves m calls image = MayLeave m.first.items (reverse (take calls m.calls.items)) image

-- `bytes_after m calls` are the bytes that a read gave after so many calls.
abbrev pub bytes_after : MemoryDisk → ℕ → List ℕ
bytes_after m calls = file_after m.first.items (reverse (take calls m.calls.items))

-- `bytes_synced m calls` are the bytes that the last sync of so many calls wrote to the device.
abbrev pub bytes_synced : MemoryDisk → ℕ → List ℕ
bytes_synced m calls = synced_after m.first.items (reverse (take calls m.calls.items))
