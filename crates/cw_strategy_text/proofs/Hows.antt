-- What a row does and its fields.
use Rattle.std.proofs.Common.{◌≡◌, ℕ, cond, List, [], ◌∷◌, length, refl, sym, ap, ◌∙◌, arith}
use Rattle.std.specs.Prelude.{None, Some, Option, codes, bytes_eq}
use Rattle.cw_certs.specs.declared.moves.Move.TheVariants.{Skip, Try, Grant, Refuse, On, Left, Right, Opened, Failed, Stop}
use Rattle.cw_certs.specs.Strategies.{How, Bad, Out, Both, Go, Into}
use Rattle.cw_text.specs.Lines.{Reads}
use Rattle.cw_text.proofs.Names.{move_of}
use Rattle.cw_strategy_text.specs.declared.kind.RowKind.{RowKind}
use Rattle.cw_strategy_text.specs.declared.kind.RowKind.TheVariants as kind
use Rattle.cw_strategy_text.specs.StrategyText.{how_fields, FitsHow}
use Rattle.cw_strategy_text.specs.Fields.{kind_of_how, kind_field, rest_fields, FitsKind, IsOf}

pub how_fields-kind : (how : How) → how_fields how ≡ kind_field (kind_of_how how) ∷ rest_fields how
how_fields-kind Bad = refl
how_fields-kind Out = refl
how_fields-kind (Both skip tried) = refl
how_fields-kind (Go by row) = refl
how_fields-kind (Into callee backs) = refl

pub fits_kind : (how : How) → FitsHow how → FitsKind (kind_of_how how)
fits_kind Bad fits = tt
fits_kind Out fits = tt
fits_kind (Both skip tried) fits = tt
fits_kind (Go by row) fits = fits.0
fits_kind (Into callee backs) fits = tt

-- the kind of a field
kind_from : List ℕ → RowKind
kind_from field =
    cond (bytes_eq field (codes "bad")) kind.Bad (cond (bytes_eq field (codes "out")) kind.Out (cond (bytes_eq field (codes "both")) kind.Both
    (cond (bytes_eq field (codes "into")) kind.Into (kind.Go (move_of field)))))

kind_back : (k : RowKind) → kind_from (kind_field k) ≡ k
unfolding kind_from move_of
kind_back kind.Bad = refl
kind_back kind.Out = refl
kind_back kind.Both = refl
kind_back kind.Into = refl
kind_back (kind.Go Skip) = refl
kind_back (kind.Go Try) = refl
kind_back (kind.Go Grant) = refl
kind_back (kind.Go Refuse) = refl
kind_back (kind.Go On) = refl
kind_back (kind.Go Left) = refl
kind_back (kind.Go Right) = refl
kind_back (kind.Go Opened) = refl
kind_back (kind.Go Failed) = refl
kind_back (kind.Go Stop) = refl

pub one_kind : (a b : RowKind) → kind_field a ≡ kind_field b → a ≡ b
one_kind a b e = sym (kind_back a) ∙ ap kind_from e ∙ kind_back b

first : List (List ℕ) → List ℕ
first [] = []
first (x ∷ xs) = x

others : List (List ℕ) → List (List ℕ)
others [] = []
others (x ∷ xs) = xs

pub first_field : (how : How) (field : List ℕ) (rest : List (List ℕ)) → how_fields how ≡ field ∷ rest → (kind_field (kind_of_how how) ≡ field) × (rest_fields how ≡ rest)
unfolding first others
first_field how field rest e = let same : kind_field (kind_of_how how) ∷ rest_fields how ≡ field ∷ rest = sym (how_fields-kind how) ∙ e in (ap first same, ap others same)

pub no_fields : (whole : List (List ℕ)) → whole ≡ [] → Reads FitsHow how_fields whole None
no_fields whole e = record { some = tt; none = λ how fits is. let bad : kind_field (kind_of_how how) ∷ rest_fields how ≡ [] = sym (how_fields-kind how) ∙ is ∙ e in omega (arith, ap length bad) }

pub no_kind : (whole : List (List ℕ)) (field : List ℕ) (rest : List (List ℕ)) → whole ≡ field ∷ rest → Reads FitsKind kind_field field None → Reads FitsHow how_fields whole None
no_kind whole field rest e reads = record { some = tt; none = λ how fits is. reads.none (kind_of_how how) (fits_kind how fits) (first_field how field rest (is ∙ e)).0 }

pub of_kind : (whole : List (List ℕ)) (field : List ℕ) (rest : List (List ℕ)) (k : RowKind) (read : Option How) → whole ≡ field ∷ rest → Reads FitsKind kind_field field (Some k)
    → Reads (IsOf k) rest_fields rest read → Reads FitsHow how_fields whole read
of_kind whole field rest k None e named reads = record {
  some = tt;
  none = λ how fits is.
      let p = first_field how field rest (is ∙ e) in
      reads.none how (record { fits = fits; kind = one_kind (kind_of_how how) k (p.0 ∙ sym named.some.1) }) p.1;
}
of_kind whole field rest k (Some how) e named reads = record {
  some = (
    reads.some.0.fits,
    how_fields-kind how
        ∙ ap (λ (w : List ℕ). w ∷ rest_fields how) (ap kind_field reads.some.0.kind ∙ named.some.1)
        ∙ ap (λ (ws : List (List ℕ)). field ∷ ws) reads.some.1
        ∙ sym e,
  );
  none = tt;
}
