-- A rule is ready exactly if it is unwritten and refers to no mark that still waits; a rule that does not count stands as written. Assumes nothing.
use Rattle.std.specs.Prelude.{◌≡◌, Bool, true, false, not, ◌&&◌, ◌||◌, List, ℕ, ◌<◌, ltb, leb, Option, Some, None}
use Rattle.std.specs.Option.{is_some}
use Rattle.std.proofs.Common.{sym, ap, ◌∙◌, ltb-true, ltb-false, le-leb}
use Rattle.std.proofs.lemmas.Bool.{not-true, not-false, lt-leb}
use Rattle.paper.specs.Limits.{max_marks}
use Rattle.general.specs.Cases.{cases, contra, same_test}
use Rattle.general.specs.Below.{every, every-at, every_of, some, some-none, some_of}
use Rattle.book.specs.Book.{Book}
use Rattle.book.specs.Firing.{refers}
use Rattle.book.specs.Image.{book_of}
use Rattle.book.specs.Marks.{has_mark}
use Rattle.book.specs.WellFormed.{WellFormed}
use Rattle.order_theory.specs.Order.{Net}
use Rattle.order_theory.specs.Written.{Written}
use Rattle.order_theory.specs.Running.{ready}
use Rattle.order_theory.specs.Marks.{is_settled}
use Rattle.order_theory.specs.Skipped.{Skips}
use Rattle.order_theory.proofs.Skipped.{ready-skips}
use Rattle.rule_order.specs.Rules.{net_of}
use Rattle.rule_order.specs.Nets.{rules_of, targets-small}
use Rattle.rule_order.specs.References.{touches, Witness, Witnessed, witness-touches}

-- the set has each mark that is not settled, and no other
abbrev pub Waits : Net → Written → List ℕ → Type 0
Waits N d waits = (m : ℕ) → m < max_marks → has_mark waits m ≡ not (is_settled N d m)

none-some : (k : ℕ) (f g : ℕ → Bool) → ((p : ℕ) → p < k → f p ≡ not (g p)) → every k f ≡ not (some k g)
none-some k f g h =
    same_test (every k f) (not (some k g))
    (λ e. rw (some-none k g (λ p c. not-true (g p) (sym (h p c) ∙ every-at k f p e c))))
    (λ e. every_of k f (λ p c. h p c ∙ cases (g p) (λ x. contra (some_of k g p c x) (not-true (some k g) e)) (λ x. rw x)))

-- what the code tests: r is unwritten, and refers to no mark of the set
unfoldable pub may_stand : Book → Written → List ℕ → ℕ → Bool
may_stand b d waits r = not (d r) && not (touches b r waits)

pub stand-written : (b : Book) (d : Written) (waits : List ℕ) (r : ℕ) (w : Bool) → w ≡ d r → w ≡ true → false ≡ may_stand b d waits r
unfolding may_stand
stand-written b d waits r w e t = rw (← e, t)

pub stand-free : (b : Book) (d : Written) (waits : List ℕ) (r : ℕ) (w : Bool) (m : ℕ) → w ≡ d r → w ≡ false → Witness (refers b r) waits m → leb max_marks m ≡ may_stand b d waits r
unfolding may_stand
stand-free b d waits r w m e u k =
    rw (← e, u, witness-touches b r waits m k)
    (cases (ltb m max_marks) (λ x. rw (x, lt-leb max_marks m (ltb-true m max_marks x))) (λ x. rw (x, le-leb max_marks m (ltb-false m max_marks x))))

-- the same of an option
pub stand-told : (b : Book) (d : Written) (waits : List ℕ) (r : ℕ) (w : Bool) (o : Option ℕ) (e : Bool) → w ≡ d r → w ≡ false → Witnessed (refers b r) waits o → is_some o ≡ not e → e ≡ may_stand b d waits r
stand-told b d waits r w None e p u k q = not-false e (sym q) ∙ stand-free b d waits r w max_marks p u k
stand-told b d waits r w (Some m) e p u k q = not-true e (sym q) ∙ sym (lt-leb max_marks m k.0) ∙ stand-free b d waits r w m p u k.1

-- that is "ready", where the rules that do not count stand as written
pub stand-ready : (s : List ℕ) (stage : ℕ) (d : Written) (waits : List ℕ) (r : ℕ) → WellFormed s → Skips (rules_of s stage) d → Waits (rules_of s stage) d waits
    → may_stand (book_of s) d waits r ≡ ready (rules_of s stage) d r
unfolding may_stand touches net_of
stand-ready s stage d waits r g k w =
    sym (ready-skips (rules_of s stage) max_marks (targets-small s stage g) d k r
    ∙ ap (λ b. not (d r) && b)
    (none-some max_marks (λ m. not ((rules_of s stage).refers r m) || is_settled (rules_of s stage) d m) (λ m. (rules_of s stage).refers r m && has_mark waits m)
    (λ m h. cases ((rules_of s stage).refers r m) (λ e. rw (e, w m h) (cases (is_settled (rules_of s stage) d m) (λ x. rw x) (λ x. rw x))) (λ e. rw e))))
