-- Which call the words of a line spell, on a book over n rows. Assumes nothing.
use Rattle.std.specs.Prelude.{◌≡◌, ℕ, ◌+◌, ◌-◌, ◌*◌, ◌^◌, ◌<◌, ◌≤◌, ◌⊎◌, ◌↔◌, true, List, [], ◌∷◌, ◌++◌, length, drop, replicate, codes, Contains}
use Rattle.std.specs.List.{AllZip, AllByRecursion}
use Rattle.std.specs.Borrow.{Bor}
use Rattle.forms.specs.Documents.{Document}
use Rattle.forms.specs.Refusals.Outcome.{gives}
use Rattle.sets.specs.Sets.{member}
use Rattle.documents.specs.Limits.{max_nodes}
use Rattle.documents.specs.Nodes.{nodes_for}
use Rattle.documents.specs.Reading.{Reads}
use Rattle.documents.specs.declared.nodes.Node.{Node}
use Rattle.documents.specs.declared.nodes.Node.TheVariants.{Void, Reference, Element}
use Rattle.book.specs.Calls.{Call}
use Rattle.book.specs.Calls.Call.{ask, offer, look_up, held, hands_out, show, fit, clear}
use Rattle.book.specs.Relations.{words_for}
use Rattle.formbook.specs.declared.scripting.Unread.{Unread}
use Rattle.formbook.specs.declared.scripting.Unread.TheVariants.{Memory}
use Rattle.formbook.specs.Words.{Words, AreWords, word, HasForm, number, IsNumber, before, behind}

-- a row number is a byte
abbrev pub IsRow : List ℕ → ℕ → Type 0
IsRow text row = IsNumber 8 10 text × (row ≡ number 10 text)

-- the longest buffer that a script may ask for
abbrev pub longest : ℕ
longest = 2 * max_nodes

-- a length, or a number of times
abbrev pub IsLength : List ℕ → ℕ → Type 0
IsLength text length = IsNumber 64 10 text × (number 10 text ≤ longest) × (length ≡ number 10 text)

-- The word is a pair of rows, P,Q, that has this bit in a relation between them.
pub record IsPair (n : ℕ) (text : List ℕ) (bit : ℕ) : Type 0 where
  pub comma : Contains text 44
  pub first : IsNumber 8 10 (before 44 text) × (number 10 (before 44 text) < n)
  pub second : IsNumber 8 10 (behind 44 text) × (number 10 (behind 44 text) < n)
  pub place : bit ≡ number 10 (before 44 text) * n + number 10 (behind 44 text)

-- one of the words is the pair with this bit
abbrev pub HasPair : ℕ → Words → ℕ → Type 0
HasPair n [] bit = ⊥
HasPair n (w ∷ words) bit = IsPair n w.now bit ⊎ HasPair n words bit

-- The words are pairs, and the relation has those and no others.
pub record ArePairs (n : ℕ) (words : Words) (relation : List ℕ) : Type 0 where
  pub long : length relation ≡ words_for n
  pub pairs : AllByRecursion (λ w. (bit : ℕ) × IsPair n w.now bit) words
  pub bits : (bit : ℕ) → (member relation bit ≡ true) ↔ HasPair n words bit

-- The words are these numbers, in hexadecimal digits.
abbrev pub AreNumbers : Words → List ℕ → Type 0
AreNumbers = AllZip (λ w n. IsNumber 64 16 w.now × (n ≡ number 16 w.now))

-- A word is a node: v, @ROW or e:LABEL:INSIDE:FOLLOWING.
abbrev pub IsNode : List ℕ → Node → Type 0
IsNode text Void = text ≡ codes "v"
IsNode text (Reference row) = (digits : List ℕ) × (text ≡ codes "@" ++ digits) × IsRow digits row
IsNode text (Element label inside following) = (rest : List ℕ) × (text ≡ codes "e:" ++ rest) × Contains rest 58 × Contains (behind 58 rest) 58
    × (IsNumber 8 10 (before 58 rest) × (label ≡ number 10 (before 58 rest)))
    × (IsNumber 16 10 (before 58 (behind 58 rest)) × (inside ≡ number 10 (before 58 (behind 58 rest))))
    × (IsNumber 16 10 (behind 58 (behind 58 rest)) × (following ≡ number 10 (behind 58 (behind 58 rest))))

-- A word is a node alone, or with a star and a number behind it so many of the node.
abbrev pub AreCopies : List ℕ → Node → ℕ → Type 0
AreCopies text node times = (Contains text 42 × IsNode (before 42 text) node × IsLength (behind 42 text) times) ⊎ ((Contains text 42 → ⊥) × IsNode text node × (times ≡ 1))

-- The words are these nodes, in their order.
pub data AreNodes : Words → List Node → Type 0 where
  none : AreNodes [] []
  more : {words : Words} {nodes : List Node} (w : Bor (List ℕ)) (node : Node) (times : ℕ) → AreNodes words nodes → AreCopies w.now node times → AreNodes (words ++ (w ∷ [])) (nodes ++ replicate times node)

-- The text of an order as a word: - is the empty order.
abbrev pub IsOrder : List ℕ → List ℕ → Type 0
IsOrder text order = ((text ≡ codes "-") × (order ≡ [])) ⊎ ((text ≡ codes "-" → ⊥) × (order ≡ text))

-- in a buffer of numbers that a script asks for every bit is set
abbrev pub all_set : ℕ
all_set = 2 ^ 64 - 1

-- An order and a row as words make this call: the order's nodes, whose last is the root, and a number of marks a node.
abbrev pub FitsOrder : List ℕ → List ℕ → Call → Type 0
FitsOrder order_word row_word (fit nodes root row marks) =
    ((order : List ℕ) × (d : Document) × IsOrder order_word order × Reads max_nodes order (gives d) × (nodes ≡ nodes_for d))
    × IsRow row_word row × (root ≡ length nodes - 1) × (marks ≡ replicate (length nodes) all_set)
FitsOrder order_word row_word _ = ⊥

-- A root, a row, a number of marks and nodes as words make this call.
abbrev pub FitsNodes : List ℕ → List ℕ → List ℕ → Words → Call → Type 0
FitsNodes root_word row_word marks_word node_words (fit nodes root row marks) =
    IsLength root_word root × IsRow row_word row × IsLength marks_word (length marks) × (marks ≡ replicate (length marks) all_set) × AreNodes node_words nodes
FitsNodes root_word row_word marks_word node_words _ = ⊥

-- Why nothing is read: memory ran out, or nothing is so.
abbrev pub Misses : {A : Type 0} → (A → Type 0) → Unread → Type 0
Misses {A} P e = (e ≡ Memory) ⊎ ((a : A) → P a → ⊥)

-- Which call the words spell.
abbrev pub Spells : ℕ → Words → Call → Type 0
Spells n words (ask p q) = HasForm words (codes "ask") 3 × IsRow (word words 1) p × IsRow (word words 2) q
Spells n words (offer relation) =
    ((1 ≤ length words) × (word words 0 ≡ codes "offer") × ArePairs n (drop 1 words) relation)
    ⊎ ((1 ≤ length words) × (word words 0 ≡ codes "offer-words") × AreNumbers (drop 1 words) relation)
Spells n words (look_up p q) = HasForm words (codes "look-up") 3 × IsRow (word words 1) p × IsRow (word words 2) q
Spells n words held = HasForm words (codes "held") 1
Spells n words (hands_out buffer) =
    (HasForm words (codes "hand-out") 1 × (buffer ≡ replicate (words_for n) all_set))
    ⊎ (HasForm words (codes "hand-out") 2 × IsLength (word words 1) (length buffer) × (buffer ≡ replicate (length buffer) all_set))
Spells n words (show p q buffer) =
    (HasForm words (codes "show") 3 × IsRow (word words 1) p × IsRow (word words 2) q × (buffer ≡ replicate (n * (n + 1)) Void))
    ⊎ (HasForm words (codes "show") 4 × IsRow (word words 1) p × IsRow (word words 2) q × IsLength (word words 3) (length buffer) × (buffer ≡ replicate (length buffer) Void))
Spells n words (fit nodes root row marks) =
    (HasForm words (codes "fit") 3 × FitsOrder (word words 1) (word words 2) (fit nodes root row marks))
    ⊎ ((4 ≤ length words) × (word words 0 ≡ codes "fit-nodes") × FitsNodes (word words 1) (word words 2) (word words 3) (drop 4 words) (fit nodes root row marks))
Spells n words clear = HasForm words (codes "clear") 1

-- Which call a line spells.
abbrev pub LineSpells : ℕ → List ℕ → Call → Type 0
LineSpells n line call = (words : Words) × AreWords line words × Spells n words call

-- Why a line is no call: memory ran out, or its words spell none.
abbrev pub SpellsNone : ℕ → List ℕ → Unread → Type 0
SpellsNone n line e = (e ≡ Memory) ⊎ ((words : Words) × AreWords line words × ((call : Call) → Spells n words call → ⊥))
