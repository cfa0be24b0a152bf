-- The parts of a turn's report, and the numbers of a list, one after another.
use Rattle.std.proofs.Common.{◌≡◌, ℕ, zero, suc, ◌<◌, ◌++◌, List, [], ◌∷◌, Some, None, refl, arith}
use Rattle.std.specs.Prelude.{codes}
use Rattle.mono_model.specs.declared.Ended.{Ended}
use Rattle.mono_machine.specs.declared.events.Reply.{Reply}
use Rattle.mono_machine.specs.declared.events.Report.TheVariants as report
use Rattle.mono_text.specs.Parser.{word_at, number_at}
use Rattle.mono_lines.specs.ReportParser.{reply_at, ended_at, replies_at, numbers_at}

pub replies-none_left : (left t : ℕ) (front : List Reply) (bytes : List ℕ) → left ≡ 0 → replies_at left t front bytes ≡ None
unfolding replies_at
replies-none_left left t front bytes e = rw e refl

pub replies-no_break : (left t : ℕ) (front : List Reply) (bytes : List ℕ) → 0 < left → word_at (codes "; ") bytes ≡ None → replies_at left t front bytes ≡ None
unfolding replies_at
replies-no_break zero t front bytes some e = absurd (omega arith)
replies-no_break (suc most) t front bytes some e = rw e refl

pub replies-end : (left t : ℕ) (front : List Reply) (bytes r : List ℕ) (e : Ended) (rest : List ℕ) → 0 < left → word_at (codes "; ") bytes ≡ Some r
    → ended_at r ≡ Some (e, rest) → replies_at left t front bytes ≡ Some (report.Turn t front e, rest)
unfolding replies_at
replies-end zero t front bytes r e rest some h k = absurd (omega arith)
replies-end (suc most) t front bytes r e rest some h k = rw (h, k) refl

pub replies-no_reply : (left t : ℕ) (front : List Reply) (bytes r : List ℕ) → 0 < left → word_at (codes "; ") bytes ≡ Some r
    → ended_at r ≡ None → reply_at r ≡ None → replies_at left t front bytes ≡ None
unfolding replies_at
replies-no_reply zero t front bytes r some h k s = absurd (omega arith)
replies-no_reply (suc most) t front bytes r some h k s = rw (h, k, s) refl

pub replies-next : (left most t : ℕ) (front : List Reply) (bytes r : List ℕ) (x : Reply) (rest : List ℕ) → left ≡ suc most → word_at (codes "; ") bytes ≡ Some r
    → ended_at r ≡ None → reply_at r ≡ Some (x, rest) → replies_at left t front bytes ≡ replies_at most t (front ++ x ∷ []) rest
unfolding replies_at
replies-next left most t front bytes r x rest same h k e = rw (same, h, k, e) refl

pub numbers-none_left : (left : ℕ) (front bytes : List ℕ) → left ≡ 0 → numbers_at left front bytes ≡ Some (front, bytes)
unfolding numbers_at
numbers-none_left left front bytes e = rw e refl

pub numbers-no_break : (left : ℕ) (front bytes : List ℕ) → 0 < left → word_at (codes " ") bytes ≡ None → numbers_at left front bytes ≡ Some (front, bytes)
unfolding numbers_at
numbers-no_break zero front bytes some e = absurd (omega arith)
numbers-no_break (suc most) front bytes some e = rw e refl

pub numbers-no_number : (left : ℕ) (front bytes r : List ℕ) → 0 < left → word_at (codes " ") bytes ≡ Some r → number_at r ≡ None → numbers_at left front bytes ≡ None
unfolding numbers_at
numbers-no_number zero front bytes r some h k = absurd (omega arith)
numbers-no_number (suc most) front bytes r some h k = rw (h, k) refl

pub numbers-next : (left most : ℕ) (front bytes r : List ℕ) (n : ℕ) (rest : List ℕ) → left ≡ suc most → word_at (codes " ") bytes ≡ Some r
    → number_at r ≡ Some (n, rest) → numbers_at left front bytes ≡ numbers_at most (front ++ n ∷ []) rest
unfolding numbers_at
numbers-next left most front bytes r n rest same h k = rw (same, h, k) refl
