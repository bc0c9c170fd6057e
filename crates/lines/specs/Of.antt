-- The lines of a sheet.
use Rattle.std.specs.Prelude.{ℕ, List, map, take, vec_items}
use Rattle.acts.specs.declared.Act.{Act}
use Rattle.acts.specs.Acts.{Lines}
use Rattle.lines.specs.declared.act_list.ActList.{ActList}
use Rattle.lines.specs.declared.sheet.Sheet.{Sheet}

-- the acts of a list
abbrev pub acts_of : {most : ℕ} → ActList most → List Act
acts_of l = vec_items l.acts

-- the lines that have begun, from party 0 up
abbrev pub lines_of : Sheet → Lines
lines_of s = take s.begun (map acts_of (s.lines))
