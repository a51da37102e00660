-- Bytes are cut into requests in one way, and end in one way
use Rattle.std.proofs.Common.{◌≡◌, ℕ, ◌+◌, List, [], ◌∷◌, ◌++◌, length, arith, refl, sym, ◌∙◌, ap, append_assoc, length-append}
use Rattle.std.specs.List.{flat_map, AllByRecursion}
use Rattle.paraid_nbd.specs.Requests.{RequestParts, request_bytes, request_in, content_length, IsRequest, IsPartRequest, IsRequestRest}
use Rattle.paraid_nbd.specs.Requests.IsPartRequest.{InMagic, InHead, InContent}
use Rattle.paraid_nbd.specs.Requests.IsRequestRest.{Part, Wrong, Last}
use Rattle.std.proofs.lemmas.List.{append-nil}

pub append-cancel : (a b x y : List ℕ) → length a ≡ length b → a ++ x ≡ b ++ y → (a ≡ b) × (x ≡ y)
append-cancel [] [] x y n e = (refl, e)
append-cancel [] (b ∷ v) x y n e = absurd (omega arith)
append-cancel (a ∷ u) [] x y n e = absurd (omega arith)
append-cancel (a ∷ u) (b ∷ v) x y n e =
    let head : a ≡ b = cc in
    let tail : u ++ x ≡ v ++ y = cc in
    let more = append-cancel u v x y (omega arith) tail in
    (ap (λ (z : ℕ). z ∷ u) head ∙ ap (λ (z : List ℕ). b ∷ z) more.0, more.1)

abbrev parts : List ℕ → List ℕ → List ℕ → RequestParts
parts m h c = record { magic = m; head = h; content = c }

parts_same : (a b c d e f : List ℕ) → a ≡ b → c ≡ d → e ≡ f → parts a c e ≡ parts b d f
parts_same a b c d e f x y z = ap (λ (w : List ℕ). parts w c e) x ∙ ap (λ (w : List ℕ). parts b w e) y ∙ ap (λ (w : List ℕ). parts b d w) z

first_same : (p q : RequestParts) (x y : List ℕ) → IsRequest p → IsRequest q → request_bytes p ++ x ≡ request_bytes q ++ y → (p ≡ q) × (x ≡ y)
first_same p q x y a b e =
    let flat : (r : RequestParts) (z : List ℕ) → request_bytes r ++ z ≡ r.magic ++ (r.head ++ (r.content ++ z)) = λ r z. append_assoc r.magic (r.head ++ r.content) z ∙ ap (λ (w : List ℕ). r.magic ++ w) (append_assoc r.head r.content z) in
    let m = append-cancel p.magic q.magic _ _ (a.magic.0 ∙ sym b.magic.0) (sym (flat p x) ∙ e ∙ flat q y) in
    let h = append-cancel p.head q.head _ _ (a.head ∙ sym b.head) m.1 in
    let many : length p.content ≡ length q.content = a.content ∙ ap (λ (w : List ℕ). content_length (request_in w).command (request_in w).length) h.0 ∙ sym b.content in
    let c = append-cancel p.content q.content x y many h.1 in
    (parts_same p.magic q.magic p.head q.head p.content q.content m.0 h.0 c.0, c.1)

request_long : (q : RequestParts) (y : List ℕ) → IsRequest q → (length (request_bytes q ++ y) ≡ 28 + (length q.content + length y))
request_long q y b = omega (arith, length-append (request_bytes q) y, length-append q.magic (q.head ++ q.content), length-append q.head q.content, b.magic.0, b.head)

request_flat : (r : RequestParts) (z : List ℕ) → request_bytes r ++ z ≡ r.magic ++ (r.head ++ (r.content ++ z))
request_flat r z = append_assoc r.magic (r.head ++ r.content) z ∙ ap (λ (w : List ℕ). r.magic ++ w) (append_assoc r.head r.content z)

part_not_first : (rest : List ℕ) (q : RequestParts) (y : List ℕ) → IsPartRequest rest → IsRequest q → rest ≡ request_bytes q ++ y → ⊥
part_not_first rest q y (InMagic few) b e = absurd (omega (arith, few, ap length e, request_long q y b))
part_not_first rest q y (InHead magic part is right few) b e = absurd (omega (arith, few, right.0, ap length is, length-append magic part, ap length e, request_long q y b))
part_not_first rest q y (InContent magic head part is right whole stays few) b e =
    let m = append-cancel magic q.magic (head ++ part) (q.head ++ (q.content ++ y)) (right.0 ∙ sym b.magic.0) (sym is ∙ e ∙ request_flat q y) in
    let h = append-cancel head q.head part (q.content ++ y) (whole ∙ sym b.head) m.1 in
    let many : length q.content ≡ content_length (request_in head).command (request_in head).length = b.content ∙ ap (λ (w : List ℕ). content_length (request_in w).command (request_in w).length) (sym h.0) in
    absurd (omega (arith, few, many, ap length h.1, length-append q.content y))

rest_not_first : (rest : List ℕ) (q : RequestParts) (y : List ℕ) → IsRequestRest rest → IsRequest q → rest ≡ request_bytes q ++ y → ⊥
rest_not_first rest q y (Part part) b e = part_not_first rest q y part b e
rest_not_first rest q y (Wrong four other) b e = absurd (omega (arith, four, ap length e, request_long q y b))
rest_not_first rest q y (Last l) b e =
    let m = append-cancel l.magic q.magic l.head (q.head ++ (q.content ++ y)) (l.magic_is.0 ∙ sym b.magic.0) (sym l.is ∙ e ∙ request_flat q y) in
    let h = append-cancel l.head q.head [] (q.content ++ y) (l.whole ∙ sym b.head) (append-nil l.head ∙ m.1) in
    b.stays (ap (λ (w : List ℕ). (request_in w).command) (sym h.0) ∙ l.last)

-- the same bytes are the same requests and the same rest
pub requests_same : (ps qs : List RequestParts) (r s : List ℕ) → AllByRecursion IsRequest ps → AllByRecursion IsRequest qs → IsRequestRest r → IsRequestRest s
    → flat_map request_bytes ps ++ r ≡ flat_map request_bytes qs ++ s → (ps ≡ qs) × (r ≡ s)
requests_same [] [] r s a b c d e = (refl, e)
requests_same [] (q ∷ qs) r s a b c d e = absurd (rest_not_first r q (flat_map request_bytes qs ++ s) c b.0 (e ∙ append_assoc (request_bytes q) (flat_map request_bytes qs) s))
requests_same (p ∷ ps) [] r s a b c d e = absurd (rest_not_first s p (flat_map request_bytes ps ++ r) d a.0 (sym e ∙ append_assoc (request_bytes p) (flat_map request_bytes ps) r))
requests_same (p ∷ ps) (q ∷ qs) r s a b c d e =
    let first = first_same p q (flat_map request_bytes ps ++ r) (flat_map request_bytes qs ++ s) a.0 b.0 (sym (append_assoc (request_bytes p) (flat_map request_bytes ps) r) ∙ e ∙ append_assoc (request_bytes q) (flat_map request_bytes qs) s) in
    let more = requests_same ps qs r s a.1 b.1 c d first.1 in
    (ap (λ (z : RequestParts). z ∷ ps) first.0 ∙ ap (λ (z : List RequestParts). q ∷ z) more.0, more.1)
