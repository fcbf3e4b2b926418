-- The index of orders beside a book, as request (iii) says it, and its length. Assumes nothing.
use Rattle.std.specs.Prelude.{◌≡◌, List, ◌++◌, ℕ, ◌+◌, ◌*◌, ◌<◌, length}
use Rattle.std.proofs.Common.{sym, ◌∙◌, length-append}
use Rattle.paper.specs.Limits.{max_marks, index_header, index_stage, index_rule}
use Rattle.general.specs.Lists.{total, total-same, total-scaled, flat, length-flat, length-parts, packed, length-packed}
use Rattle.wire.specs.Wire.{bytes32}
use Rattle.wire.specs.Laws.{length-bytes32}
use Rattle.order_theory.specs.Order.{counted_rules, NoLoop}
use Rattle.order_theory.specs.Running.{running_order}
use Rattle.order_theory.proofs.Running.{running-length}
use Rattle.book.specs.Book.{Book}
use Rattle.book.specs.Image.{book_of}
use Rattle.book.specs.WellFormed.{WellFormed}
use Rattle.rule_order.specs.Rules.{net_of}
use Rattle.rule_order.specs.Nets.{rules_of, targets-small}

-- the running order of a stage
abbrev pub order_of : Book → ℕ → List ℕ
order_of b stage = running_order (net_of b stage)

-- "then the running orders, stage by stage without gaps", and by request (xiv) 32 bits a rule
unfoldable pub order_bytes : Book → ℕ → List ℕ
order_bytes b stage = packed bytes32 (order_of b stage)

-- where a stage's order begins, "the byte offset from the image's start": behind S and R, the stages' entries, and the orders of the stages before it
unfoldable pub offset_of : Book → ℕ → ℕ
offset_of b stage = index_header + index_stage * b.stages + length (flat stage (order_bytes b))

-- "for each stage the byte offset from the image's start and the count of its order (all 32 bits each)"
unfoldable pub entry_bytes : Book → ℕ → List ℕ
entry_bytes b stage = bytes32 (offset_of b stage) ++ bytes32 (length (order_of b stage))

-- "S and R, then for each stage .., then the running orders"
unfoldable pub index_image : Book → List ℕ
index_image b = bytes32 b.stages ++ bytes32 (length b.rules) ++ flat b.stages (entry_bytes b) ++ flat b.stages (order_bytes b)

-- ---- its length, by the stages' counts

pub length-order : (b : Book) (stage : ℕ) → length (order_bytes b stage) ≡ index_rule * length (order_of b stage)
unfolding order_bytes
length-order b stage = length-packed bytes32 index_rule length-bytes32 (order_of b stage)

pub length-entry : (b : Book) (stage : ℕ) → length (entry_bytes b stage) ≡ index_stage
unfolding entry_bytes
length-entry b stage =
    length-append (bytes32 (offset_of b stage)) (bytes32 (length (order_of b stage)))
    ∙ rw (length-bytes32 (offset_of b stage), length-bytes32 (length (order_of b stage)))

-- the orders of the first k stages
pub length-orders : (b : Book) (k : ℕ) → length (flat k (order_bytes b)) ≡ index_rule * total k (λ s. length (order_of b s))
length-orders b k =
    length-flat k (order_bytes b)
    ∙ total-same k (λ s. length (order_bytes b s)) (λ s. index_rule * length (order_of b s)) (λ s h. length-order b s)
    ∙ total-scaled k index_rule (λ s. length (order_of b s))

pub length-entries : (b : Book) (k : ℕ) → length (flat k (entry_bytes b)) ≡ index_stage * k
length-entries b k = length-parts k index_stage (entry_bytes b) (length-entry b)

pub length-header : (b : Book) → length (bytes32 b.stages ++ bytes32 (length b.rules)) ≡ index_header
length-header b =
    length-append (bytes32 b.stages) (bytes32 (length b.rules)) ∙ rw (length-bytes32 b.stages, length-bytes32 (length b.rules))

pub offset-is : (b : Book) (stage : ℕ) → offset_of b stage ≡ index_header + index_stage * b.stages + index_rule * total stage (λ s. length (order_of b s))
unfolding offset_of
offset-is b stage = rw (length-orders b stage)

-- the bytes that the image has
pub length-index : (b : Book) → length (index_image b) ≡ index_header + index_stage * b.stages + index_rule * total b.stages (λ s. length (order_of b s))
unfolding index_image
length-index b =
    let front : List ℕ = bytes32 b.stages ++ bytes32 (length b.rules) in
    let e : List ℕ = flat b.stages (entry_bytes b) in
    let o : List ℕ = flat b.stages (order_bytes b) in
    length-append (front ++ e) o ∙ rw (length-append front e, length-header b, length-entries b b.stages, length-orders b b.stages)

-- the orders end where the image does
pub index-ends : (b : Book) → offset_of b b.stages ≡ length (index_image b)
index-ends b = offset-is b b.stages ∙ sym (length-index b)

-- ---- where no stage has a loop

-- "A loop is a loop among the rules counted for some stage"
abbrev pub NoLoops : Book → Type 0
NoLoops b = (t : ℕ) → t < b.stages → NoLoop (net_of b t)

-- then every order lists all the rules that count
pub order-length : (s : List ℕ) (stage : ℕ) → WellFormed s → NoLoop (rules_of s stage) → length (order_of (book_of s) stage) ≡ counted_rules (rules_of s stage)
order-length s stage g n = running-length (rules_of s stage) max_marks (targets-small s stage g) n
