-- What holds after every history whose answers were right.
use Rattle.std.specs.Prelude.{◌≡◌, ℕ, ◌*◌, ◌<◌, ◌≤◌, Bool, true, ◌⊎◌, ◌↔◌, List, [], ◌∷◌, ◌++◌, length, Some, None, Ok, Err, Option, ◌≢◌}
use Rattle.fault.specs.declared.Fault.{Fault}
use Rattle.acts.specs.declared.Act.{Act}
use Rattle.acts.specs.Acts.{part, Quiet, Lines, byte_of_letter}
use Rattle.lines.specs.Charts.{IsChart}
use Rattle.channel.specs.Meaning.{Lawful}
use Rattle.conversation.specs.Conversations.{Conversation, Talks}
use Rattle.families.specs.Judgement.{View, LastView, HeldConversation, BeginsHeld}
use Rattle.families.specs.Families.{Machines, Precise, NoDeadEnd, Able, Whole}
use Rattle.families.specs.Theorems.{ToldMeans}
use Rattle.machines.specs.Files.{list_file_bytes}
use Rattle.machines.specs.Reading.{file_family}
use Rattle.verdicts.specs.Product.{product}
use Rattle.histories.specs.History.{Call, add, withdraw, judge, begin, act, end, abandon, Reply, count, verdict, named, History, then, held, playing, parties}
use Rattle.histories.specs.Right.{Right, AllRight, Resting, HoldsNothing, most_tuples}

-- the id that a call names: add and withdraw do
abbrev pub names : Call → Option ℕ
names (add i c) = Some i
names (withdraw i) = Some i
names (judge cells output) = None
names begin = None
names (act p l e m) = None
names end = None
names abandon = None

-- the last granted call that names the id is an add of this chart
pub data LastAdded : History → ℕ → Lines → Type 0 where
  -- the last call is that add
  now_added : {h : History} {i : ℕ} {c : Lines} {r : Reply} → LastAdded (then h (add i c) (Ok r)) i c
  -- the last call was refused
  past_refused : {h : History} {k : Call} {i : ℕ} {c : Lines} {e : Fault} → LastAdded h i c → LastAdded (then h k (Err e)) i c
  -- the last call names another id or none
  past_other : {h : History} {k : Call} {i : ℕ} {c : Lines} {r : Reply} → (names k ≢ Some i) → LastAdded h i c → LastAdded (then h k (Ok r)) i c

-- held charts are charts with ids up to 7, the same number of parties, and a conversation each over the channel; no two are equal; an id holds a chart
-- exactly where the last granted call that names it added that chart
pub record HoldingLaw (G : List Act → Bool) (h : History) : Type 0 where
  pub ids : (i : ℕ) (c : Lines) → held h i ≡ Some c → i ≤ 7
  pub charts : (i : ℕ) (c : Lines) → held h i ≡ Some c → IsChart c
  pub same_parties : (i : ℕ) (c : Lines) → held h i ≡ Some c → length c ≡ parties (held h)
  pub apart : (i j : ℕ) (c : Lines) → held h i ≡ Some c → held h j ≡ Some c → i ≡ j
  pub talk : (i : ℕ) (c : Lines) → held h i ≡ Some c → Talks G c
  pub last_added : (i : ℕ) (c : Lines) → (held h i ≡ Some c) ↔ LastAdded h i c

-- what the told list of a kind means, against any family: every family able to hold the held conversations can be led along it; it is a beginning of
-- none of them, or none of them and whole in every able family; no list with these properties has fewer acts. Kind 1 is of the second sort.
pub record ToldLaw (M : Machines) (G : List Act → Bool) (h : History) (kind : ℕ) (file : List ℕ) : Type 0 where
  pub list : List Act
  pub written : file ≡ list_file_bytes kind list
  pub means : ToldMeans M G (parties (held h)) (held h) list
  pub one : kind ≡ 1 → (¬ HeldConversation G (held h) list) × (Able M G (parties (held h)) (held h) → Whole M G (parties (held h)) list)
  pub two : kind ≡ 2 → ¬ BeginsHeld G (held h) list
  pub kinds : (kind ≡ 1) ⊎ (kind ≡ 2)

-- judge, where it is granted: machines exactly where some family holds precisely the held conversations without a dead end, and the family read off
-- the written file is such a one; otherwise the told list
pub record VerdictLaw (M : Machines) (G : List Act → Bool) (h : History) (kind : ℕ) (file : List ℕ) : Type 0 where
  pub machines : kind ≡ 0 → Precise (file_family file) G (parties (held h)) (held h) × NoDeadEnd (file_family file) G (parties (held h))
  pub only_then : Precise M G (parties (held h)) (held h) → NoDeadEnd M G (parties (held h)) → kind ≡ 0
  pub tells : (kind ≢ 0) → ToldLaw M G h kind file

-- a kind and a file that every judge with cells and output enough answers
pub record OneVerdict (G : List Act → Bool) (code : ℕ) (h : History) : Type 0 where
  pub kind : ℕ
  pub file : List ℕ
  pub answered : (cells output : ℕ) → 2 * product (held h) ≤ cells → length file ≤ output → Right G code h (judge cells output) (Ok (verdict kind file))

-- the call of an act
abbrev pub calling : Act → Call
calling a = act a.party (byte_of_letter a.letter) a.peer a.name

-- the acts would be granted one after another after h, which leads to the later history
pub data IsGoingOn (G : List Act → Bool) (code : ℕ) : History → List Act → History → Type 0 where
  stays : {h : History} → IsGoingOn G code h [] h
  goes : {h g : History} {a : Act} {w : List Act} (k : ℕ) → Right G code h (calling a) (Ok (count k))
      → IsGoingOn G code (then h (calling a) (Ok (count k))) w g → IsGoingOn G code h (a ∷ w) g

-- some further acts, perhaps none, would be granted one after another, and end after them
pub record CanEnd (G : List Act → Bool) (code : ℕ) (h : History) : Type 0 where
  pub further : List Act
  pub after : History
  pub on : IsGoingOn G code h further after
  pub id : ℕ
  pub acts : ℕ
  pub ends : Right G code after end (Ok (named id acts))

-- in a play with the acts w so far: an act is granted exactly where it lengthens its party's part to a view and the channel grants it, and then
-- some chart still agrees; the play can go on to an end; end is granted where nothing waits and every part is a last view; and a granted end names a held
-- chart of which w is a conversation
pub record PlayLaw (G : List Act → Bool) (code : ℕ) (h : History) (w : List Act) : Type 0 where
  pub granted : (a : Act) → View (held h) a.party (part a.party w ++ (a ∷ [])) → G (w ++ (a ∷ [])) ≡ true
      → (k : ℕ) × (0 < k) × Right G code h (calling a) (Ok (count k))
  pub only_granted : (p l e m : ℕ) (r : Reply) → Right G code h (act p l e m) (Ok r)
      → (a : Act) × (calling a ≡ act p l e m) × View (held h) a.party (part a.party w ++ (a ∷ [])) × (G (w ++ (a ∷ [])) ≡ true)
  pub can_end : CanEnd G code h
  pub at_end : Quiet w → ((p : ℕ) → LastView (held h) p (part p w)) → (id : ℕ) × Right G code h end (Ok (named id (length w)))
  pub end_names : (r : Reply) → Right G code h end (Ok r)
      → (id : ℕ) × (c : Lines) × (r ≡ named id (length w)) × (held h id ≡ Some c) × Conversation G c w

-- the law over histories, against any family: what is held, where judge is granted and what its verdict means, and how plays go
pub record Law (M : Machines) (G : List Act → Bool) (code : ℕ) (h : History) : Type 0 where
  pub holding : HoldingLaw G h
  pub judges : Resting h → (HoldsNothing (held h) → ⊥) → product (held h) ≤ most_tuples → OneVerdict G code h
  pub verdict : (cells output kind : ℕ) (file : List ℕ) → Right G code h (judge cells output) (Ok (verdict kind file)) → VerdictLaw M G h kind file
  pub play : (w : List Act) → playing h ≡ Some w → PlayLaw G code h w

-- over every lawful channel, after every history of proper calls with right answers
abbrev pub LawOverHistories : Machines → Type 0
LawOverHistories M = (G : List Act → Bool) → Lawful G → (code : ℕ) (h : History) → AllRight G code h → Law M G code h
