-- Tables with the same rows.
use Rattle.std.proofs.Common.{List}
use Rattle.vacm_core.specs.Tables.{Tables, IsSameSet, HaveSameRows}

back : {R : Type 0} {a b : List R} → IsSameSet a b → IsSameSet b a
back s = record { both = λ row. ((s.both row).1, (s.both row).0) }

on : {R : Type 0} {a b c : List R} → IsSameSet a b → IsSameSet b c → IsSameSet a c
on s t = record { both = λ row. (λ x. (t.both row).0 ((s.both row).0 x), λ x. (s.both row).1 ((t.both row).1 x)) }

pub same_back : (s t : Tables) → HaveSameRows s t → HaveSameRows t s
same_back s t h = record { contexts = back h.contexts; groups = back h.groups; access = back h.access; families = back h.families }

pub same_on : (s t u : Tables) → HaveSameRows s t → HaveSameRows t u → HaveSameRows s u
same_on s t u h k = record { contexts = on h.contexts k.contexts; groups = on h.groups k.groups; access = on h.access k.access; families = on h.families k.families }
