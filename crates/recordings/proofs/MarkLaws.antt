-- The calls of an input on the way: none at first, then one more.
use Rattle.std.proofs.Common.{◌≡◌, ℕ, ◌<◌, List, [], length, None, sym}
use Rattle.recordings.specs.declared.recording.Calls.{Calls}
use Rattle.recordings.specs.Calls.{Said, Says, call_end, call_fault}
use Rattle.recordings.specs.Marks.{Before, none_yet, one_more, Keeps, events}

pub none_kept : (xs : List ℕ) (start : ℕ) (x : Calls) → x.marks.items ≡ [] → x.put.items ≡ [] → Before xs start x.marks.items (events x) start
none_kept xs start x e f = rw (e, f) none_yet

pub one_kept : (xs : List ℕ) (start : ℕ) (x y : Calls) (i j : ℕ) (s : Said) → Before xs start x.marks.items (events x) i → i < length xs →
    None ≡ call_fault xs i → j ≡ call_end xs i → Says xs i s → Keeps s x y → Before xs start y.marks.items (events y) j
one_kept xs start x y i j s before inside none ends says k =
    rw (k.adds.marks, k.adds.put, ends) (one_more _ _ i s k.mark k.new before inside (sym none) says k.becomes)
