-- These definitions say where a byte of a text is, as people count lines and columns.
use Rattle.std.specs.Prelude.{ℕ, Bool, ◌||◌, List, not, reverse, count_by, take_while, nat_eq, nat_le, nat_lt}

-- A line feed ends a line.
abbrev pub is_line_feed : ℕ → Bool
is_line_feed byte = nat_eq byte 10

-- A byte of UTF-8 begins a character, unless it is one of 0x80 to 0xbf.
abbrev pub begins_character : ℕ → Bool
begins_character byte = nat_lt byte 0x80 || nat_le 0xc0 byte

-- `last_line text`, read from the end, is what comes after the last line feed.
abbrev pub last_line : List ℕ → List ℕ
last_line text = take_while (λ byte. not (is_line_feed byte)) (reverse text)

-- `characters_on_line text` is how many characters the last line of the text has.
abbrev pub characters_on_line : List ℕ → ℕ
characters_on_line text = count_by begins_character (last_line text)
