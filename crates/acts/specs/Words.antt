-- Acts in words.
use Rattle.std.specs.Prelude.{ℕ, List, ◌++◌, codes, decimal}
use Rattle.acts.specs.declared.Act.{Act}
use Rattle.acts.specs.declared.Letter.{Letter}
use Rattle.acts.specs.declared.Letter.TheVariants.{Send, Receive}

-- what a letter says of a name and a peer, as text
abbrev pub said : Letter → ℕ → ℕ → List ℕ
said Send m e = codes "sends " ++ (decimal m ++ (codes " to " ++ decimal e))
said Receive m e = codes "receives " ++ (decimal m ++ (codes " from " ++ decimal e))

abbrev pub words_of : Act → List ℕ
words_of a = said a.letter a.name a.peer
