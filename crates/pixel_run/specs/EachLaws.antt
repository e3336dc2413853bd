-- Mapping the pixels of a slice one after the other: what is done so far, with the rest mapped, is the whole mapped. The length stays. Assumes nothing.
use Rattle.std.specs.Prelude.{◌≡◌, refl, List, [], ◌∷◌, ◌++◌, ℕ, suc, ◌+◌, ◌-◌, ◌*◌, ◌/◌, ◌≤◌, ◌<◌, length, take, drop, get_or, set, Float}
use Rattle.std.proofs.Common.{sym, ap, ◌∙◌, subst, append_assoc, arith, length-set, length-drop, take-append-drop, drop-cons, take-suc-set, drop-set-lt}
use Rattle.std.specs.Float.{nan}
use Rattle.pixel.specs.declared.Pixel.{Pixel}
use Rattle.pixel_run.specs.Each.{each_pixel, EachHolds}

-- what a step answers, as `post` says it, is what f makes of the pixel
abbrev pub Computes : (Pixel → Pixel → Type 0) → (Pixel → Pixel) → Type 0
Computes post f = (x y : Pixel) → post x y → y ≡ f x

-- the first i components are mapped already
abbrev pub Done : (Pixel → Pixel) → List Float → List Float → ℕ → Type 0
Done f xs₀ xs i = take i xs ++ each_pixel f (drop i xs) ≡ each_pixel f xs₀

-- the pixel at i
abbrev pub pixel_at : List Float → ℕ → Pixel
pixel_at xs i = record { r = get_or xs i nan; g = get_or xs (i + 1) nan; b = get_or xs (i + 2) nan }

-- a pixel put there
abbrev pub stored_pixel : List Float → ℕ → Pixel → List Float
stored_pixel xs i q = set (set (set xs i q.r) (i + 1) q.g) (i + 2) q.b

-- three at i
drop3 : (xs : List Float) (i : ℕ) → i + 2 < length xs → drop i xs ≡ get_or xs i nan ∷ get_or xs (i + 1) nan ∷ get_or xs (i + 2) nan ∷ drop (i + 3) xs
drop3 xs i h =
    let one : i + 1 ≡ suc i = omega arith in
    let two : i + 2 ≡ suc (suc i) = omega arith in
    let three : i + 3 ≡ suc (suc (suc i)) = omega arith in
    rw (one, two, three)
    (drop-cons xs i nan (omega arith)
    ∙ ap (λ (l : List Float). get_or xs i nan ∷ l) (drop-cons xs (suc i) nan (omega arith)
    ∙ ap (λ (l : List Float). get_or xs (suc i) nan ∷ l) (drop-cons xs (suc (suc i)) nan (omega arith))))

drop-stored : (xs : List Float) (i : ℕ) (q : Pixel) → drop (i + 3) (stored_pixel xs i q) ≡ drop (i + 3) xs
drop-stored xs i q =
    drop-set-lt (i + 3) (set (set xs i q.r) (i + 1) q.g) (i + 2) q.b (omega arith)
    ∙ drop-set-lt (i + 3) (set xs i q.r) (i + 1) q.g (omega arith)
    ∙ drop-set-lt (i + 3) xs i q.r (omega arith)

take-stored : (xs : List Float) (i : ℕ) (q : Pixel) → i + 2 < length xs → take (i + 3) (stored_pixel xs i q) ≡ take i xs ++ (q.r ∷ q.g ∷ q.b ∷ [])
take-stored xs i q h =
    let a = set xs i q.r in
    let b = set a (i + 1) q.g in
    let la : length a ≡ length xs = length-set xs i q.r in
    let lb : length b ≡ length a = length-set a (i + 1) q.g in
    let three : i + 3 ≡ suc (i + 2) = omega arith in
    let two : i + 2 ≡ suc (i + 1) = omega arith in
    let one : i + 1 ≡ suc i = omega arith in
    let e1 : take (suc i) a ≡ take i xs ++ (q.r ∷ []) = take-suc-set xs i q.r (omega arith) in
    let e2 : take (suc (i + 1)) b ≡ take (i + 1) a ++ (q.g ∷ []) = take-suc-set a (i + 1) q.g (omega arith) in
    let e3 : take (suc (i + 2)) (set b (i + 2) q.b) ≡ take (i + 2) b ++ (q.b ∷ []) = take-suc-set b (i + 2) q.b (omega arith) in
    ap (λ (n : ℕ). take n (set b (i + 2) q.b)) three
    ∙ e3
    ∙ ap (λ (n : ℕ). take n b ++ (q.b ∷ [])) two
    ∙ ap (λ (l : List Float). l ++ (q.b ∷ [])) (e2 ∙ ap (λ (n : ℕ). take n a ++ (q.g ∷ [])) one ∙ ap (λ (l : List Float). l ++ (q.g ∷ [])) e1)
    ∙ simp append_assoc

pub done-start : (f : Pixel → Pixel) (xs : List Float) → Done f xs xs 0
done-start f xs = refl

pub done_more : (f : Pixel → Pixel) (xs₀ xs : List Float) (i : ℕ) → i + 2 < length xs → Done f xs₀ xs i → Done f xs₀ (stored_pixel xs i (f (pixel_at xs i))) (i + 3)
unfolding each_pixel
done_more f xs₀ xs i h d =
    let q = f (pixel_at xs i) in
    ap (λ (l : List Float). take (i + 3) (stored_pixel xs i q) ++ each_pixel f l) (drop-stored xs i q)
    ∙ ap (λ (l : List Float). l ++ each_pixel f (drop (i + 3) xs)) (take-stored xs i q h)
    ∙ append_assoc (take i xs) (q.r ∷ q.g ∷ q.b ∷ []) (each_pixel f (drop (i + 3) xs))
    ∙ sym (ap (λ (l : List Float). take i xs ++ each_pixel f l) (drop3 xs i h))
    ∙ d

short : (f : Pixel → Pixel) (l : List Float) → length l < 3 → each_pixel f l ≡ l
unfolding each_pixel
short f [] h = refl
short f (a ∷ []) h = refl
short f (a ∷ b ∷ []) h = refl
short f (a ∷ b ∷ c ∷ l) h = absurd (omega arith)

pub done_end : (f : Pixel → Pixel) (xs₀ xs : List Float) (i : ℕ) → length xs - i < 3 → Done f xs₀ xs i → xs ≡ each_pixel f xs₀
done_end f xs₀ xs i h d =
    sym (take-append-drop i xs)
    ∙ ap (λ (l : List Float). take i xs ++ l) (sym (short f (drop i xs) (subst (λ (n : ℕ). n < 3) (sym (length-drop i xs)) h)))
    ∙ d

-- what a loop over the pixels keeps
pub record Passed (f : Pixel → Pixel) (xs₀ xs : List Float) (i : ℕ) : Type 0 where
  pub within : i ≤ length xs
  pub whole : length xs ≡ length xs₀
  pub done : Done f xs₀ xs i

length-stored : (xs : List Float) (i : ℕ) (q : Pixel) → length (stored_pixel xs i q) ≡ length xs
length-stored xs i q = simp length-set

pub passed_start : (f : Pixel → Pixel) (xs : List Float) → Passed f xs xs 0
passed_start f xs = record { within = omega arith; whole = refl; done = done-start f xs }

-- one pixel read, mapped and put back
pub passed-more : {f : Pixel → Pixel} {xs₀ xs : List Float} {i : ℕ} {x y : Pixel} {ys : List Float} → Passed f xs₀ xs i → i + 2 < length xs → x ≡ pixel_at xs i → y ≡ f x → ys ≡ stored_pixel xs i y
    → Passed f xs₀ ys (i + 3)
passed-more {f} {xs₀} {xs} {i} {x} {y} {ys} p h ex ey es =
    let l : length ys ≡ length xs = ap length es ∙ length-stored xs i y in
    record { within = omega arith; whole = l ∙ p.whole; done = rw (es, ey, ex) (done_more f xs₀ xs i h p.done) }

-- the pixel with the number k read, mapped and put back
pub passed_step : {f : Pixel → Pixel} {xs₀ xs : List Float} {k : ℕ} {y : Pixel} → Passed f xs₀ xs (3 * k) → k < length xs / 3 → y ≡ f (pixel_at xs (3 * k))
    → Passed f xs₀ (stored_pixel xs (3 * k) y) (3 * (k + 1))
passed_step {f} {xs₀} {xs} {k} {y} p h e =
    let next : 3 * k + 3 ≡ 3 * (k + 1) = omega arith in
    subst (λ (n : ℕ). Passed f xs₀ (stored_pixel xs (3 * k) y) n) next (passed-more p (omega arith) refl e refl)

pub passed-end : {f : Pixel → Pixel} {xs₀ xs : List Float} {i : ℕ} → length xs - i < 3 → Passed f xs₀ xs i → xs ≡ each_pixel f xs₀
passed-end {f} {xs₀} {xs} {i} h p = done_end f xs₀ xs i h p.done

pub each-length : (f : Pixel → Pixel) (xs : List Float) → length (each_pixel f xs) ≡ length xs
unfolding each_pixel
each-length f [] = refl
each-length f (a ∷ []) = refl
each-length f (a ∷ b ∷ []) = refl
each-length f (a ∷ b ∷ c ∷ l) = ap (λ (n : ℕ). suc (suc (suc n))) (each-length f l)

-- two steps one after the other, node by node or pixel by pixel
pub each_after : (f g : Pixel → Pixel) (xs : List Float) → each_pixel g (each_pixel f xs) ≡ each_pixel (λ x. g (f x)) xs
unfolding each_pixel
each_after f g [] = refl
each_after f g (a ∷ []) = refl
each_after f g (a ∷ b ∷ []) = refl
each_after f g (a ∷ b ∷ c ∷ l) =
    let y = g (f (record { r = a; g = b; b = c })) in
    ap (λ (t : List Float). y.r ∷ y.g ∷ y.b ∷ t) (each_after f g l)

-- steps that agree on every pixel agree on every slice
pub each_same : (f g : Pixel → Pixel) → ((x : Pixel) → f x ≡ g x) → (xs : List Float) → each_pixel f xs ≡ each_pixel g xs
unfolding each_pixel
each_same f g h [] = refl
each_same f g h (a ∷ []) = refl
each_same f g h (a ∷ b ∷ []) = refl
each_same f g h (a ∷ b ∷ c ∷ l) = rw (h (record { r = a; g = b; b = c }), each_same f g h l)

-- what a step promises of every pixel holds of every pixel of a slice
pub each_holds : (P : Pixel → Type 0) (f : Pixel → Pixel) → ((x : Pixel) → P (f x)) → (xs : List Float) → EachHolds P (each_pixel f xs)
unfolding each_pixel EachHolds
each_holds P f h [] = tt
each_holds P f h (a ∷ []) = tt
each_holds P f h (a ∷ b ∷ []) = tt
each_holds P f h (a ∷ b ∷ c ∷ l) = (h (record { r = a; g = b; b = c }), each_holds P f h l)
