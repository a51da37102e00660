-- Several calls of a reader or of a writer, of which all but the last have failed.
use Rattle.std.proofs.Common.{ℕ, List, [], ◌++◌, Option, None, Some, Result, Ok, Err, refl, sym, ap, ◌∙◌, append-nil}
use Rattle.std.specs.Io.KnownBytes.{Keeps, Appends, Consumes, ReadConsumes, WriteAppends}

pub keeps_same : (a : Option (List ℕ)) → Keeps a a
keeps_same None = tt
keeps_same (Some x) = refl

pub keeps_then : (a b c : Option (List ℕ)) → Keeps a b → Keeps b c → Keeps a c
keeps_then None b c p q = tt
keeps_then (Some x) None c p q = absurd p
keeps_then (Some x) (Some y) None p q = absurd q
keeps_then (Some x) (Some y) (Some z) p q = q ∙ p

Consumes-then : (a b c : Option (List ℕ)) (bs : List ℕ) → Keeps a b → Consumes b c bs → Consumes a c bs
Consumes-then None b c bs p q = tt
Consumes-then (Some x) None c bs p q = absurd p
Consumes-then (Some x) (Some y) None bs p q = absurd q
Consumes-then (Some x) (Some y) (Some z) bs p q = sym p ∙ q

Appends-then : (a b c : Option (List ℕ)) (bs : List ℕ) → Keeps a b → Appends b c bs → Appends a c bs
Appends-then None b c bs p q = tt
Appends-then (Some x) None c bs p q = absurd p
Appends-then (Some x) (Some y) None bs p q = absurd q
Appends-then (Some x) (Some y) (Some z) bs p q = q ∙ ap (λ l. l ++ bs) p

-- reads have failed, and this is the next
pub read_then : {E : Type 0} (a b c : Option (List ℕ)) (r : Result ℕ E) (buf : List ℕ) → Keeps a b → ReadConsumes b c r buf → ReadConsumes a c r buf
read_then a b c (Ok n) buf kept read = (Consumes-then a b c _ kept read.0, read.1)
read_then a b c (Err e) buf kept read = keeps_then a b c kept read

-- writes have failed, and this is the next
pub write_then : {E : Type 0} (a b c : Option (List ℕ)) (r : Result ℕ E) (buf : List ℕ) → Keeps a b → WriteAppends b c r buf → WriteAppends a c r buf
write_then a b c (Ok n) buf kept written = Appends-then a b c _ kept written
write_then a b c (Err e) buf kept written = keeps_then a b c kept written

-- a write that takes nothing leaves what was written
pub none_written : (a b : Option (List ℕ)) → Appends a b [] → Keeps a b
none_written None b p = tt
none_written (Some x) None p = absurd p
none_written (Some x) (Some y) p = p ∙ append-nil x
