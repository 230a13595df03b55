-- Bodies of records written by hand, byte by byte.
use Rattle.std.specs.Prelude.{ℕ, pos, List, [], ◌∷◌, ◌++◌}
use Rattle.ash_host.specs.declared.word.Word.TheVariants as words
use Rattle.ash_image.specs.ImageExamples.{none2, none4, none8, in8}
use Rattle.ash_image.specs.Delta.{Added, Removed, Globals, Delta}

-- the module `m` is loaded from an empty source, in the first request
abbrev pub loaded_m : Delta
loaded_m = record {
  seq = 1;
  last = 0;
  services = [];
  change = Added (record { name = 109 ∷ []; source = []; globals = [] });
  gone = [];
  put = [];
}

abbrev pub loaded_m_body : List ℕ
loaded_m_body = 2 ∷ in8 1 ++ none8 ++ none2 ++ 1 ∷ 1 ∷ 109 ∷ none4 ++ none2 ++ none4 ++ none4

-- the module `m` is discarded in the second
abbrev pub discarded_m : Delta
discarded_m = record { seq = 2; last = 0; services = []; change = Removed (109 ∷ []); gone = []; put = [] }

abbrev pub discarded_m_body : List ℕ
discarded_m_body = 2 ∷ in8 2 ++ none8 ++ none2 ++ 2 ∷ 1 ∷ 109 ∷ none4 ++ none4

-- the first global of the module `m` becomes the int 1 beside a living object, in the second
abbrev pub changed_m : Delta
changed_m = record {
  seq = 2;
  last = 1;
  services = [];
  change = Globals (109 ∷ []) ((0, words.Int (pos 1)) ∷ []);
  gone = [];
  put = [];
}

abbrev pub changed_m_body : List ℕ
changed_m_body = 2 ∷ in8 2 ++ in8 1 ++ none2 ++ 3 ∷ 1 ∷ 109 ∷ 1 ∷ 0 ∷ none2 ++ 1 ∷ 1 ∷ 0 ∷ 0 ∷ 0 ∷ none4 ++ none4

-- the module `m` is loaded in the first request and discarded in the second, in one record
abbrev pub loaded_and_discarded : List Delta
loaded_and_discarded = loaded_m ∷ discarded_m ∷ []

abbrev pub loaded_and_discarded_body : List ℕ
loaded_and_discarded_body =
    3 ∷ 2 ∷ in8 1 ++ none8 ++ none2 ++ 1 ∷ 1 ∷ 109 ∷ none4 ++ none2 ++ none4 ++ none4
    ++ in8 2 ++ none8 ++ none2 ++ 2 ∷ 1 ∷ 109 ∷ none4 ++ none4
