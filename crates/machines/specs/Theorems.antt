-- What the family of a machine file does, as statements that contracts cite.
use Rattle.std.specs.Prelude.{ℕ, ◌<◌, ◌≤◌, Bool, List, length}
use Rattle.std.specs.List.{AllByRecursion}
use Rattle.acts.specs.declared.Act.{Act}
use Rattle.families.specs.Judgement.{Charts, NothingBreaks, Judgeable}
use Rattle.families.specs.Families.{tree, Precise, NoDeadEnd}
use Rattle.families.specs.Theorems.{DoTheSame}
use Rattle.machines.specs.Files.{machine_file_bytes}
use Rattle.machines.specs.Reading.{file_family}

-- the family that the machine file gives does the same as the family of the views
abbrev pub FileIsViews : Type 0
FileIsViews = (G : List Act → Bool) (n : ℕ) (f : Charts) → Judgeable G n f → (code : ℕ)
    → DoTheSame (file_family (machine_file_bytes code n f)) (tree f) G n

-- so where nothing breaks it holds precisely the held conversations and has no dead end
abbrev pub FileTells : Type 0
FileTells = (G : List Act → Bool) (n : ℕ) (f : Charts) → Judgeable G n f → NothingBreaks G f → (code : ℕ)
    → Precise (file_family (machine_file_bytes code n f)) G n f × NoDeadEnd (file_family (machine_file_bytes code n f)) G n

-- the machine file is made of bytes, and has at most 10,912 of them
pub record Fits (file : List ℕ) : Type 0 where
  pub bytes : AllByRecursion (λ b. b < 256) file
  pub few : length file ≤ 10912

abbrev pub FileFits : Type 0
FileFits = (G : List Act → Bool) (n : ℕ) (f : Charts) → Judgeable G n f → (code : ℕ) → code < 256 → Fits (machine_file_bytes code n f)
