-- Texts that are appended part by part.
use Rattle.std.proofs.Common.{◌≡◌, ◌⊎◌, inl, inr, ℕ, List, [], ◌∷◌, ◌++◌, length, map, refl, append_assoc, arith}
use Rattle.std.specs.Prelude.{codes}
use Rattle.hsp_cert.specs.Text.{unlines}
use Rattle.hsp_cert.proofs.LineCuts.{unlines-append}
use Rattle.hsp_price_text.specs.declared.certificate.PriceCertificate.TheVariants.{Plan, Shortage}
use Rattle.hsp_price_text.specs.Claim.{Best, Short}
use Rattle.hsp_price_text.specs.Text.{class_line, in_turn, numbered, price_lines, server_line, text_of, version}

-- the lines of a plan
pub plan_appended : (b : Best) (o p q r s t u : List ℕ) → p ≡ o ++ unlines (version ∷ codes "PLAN" ∷ [])
    → q ≡ p ++ unlines (numbered (codes "cost") (b.cost ∷ []) ∷ [])
    → r ≡ q ++ unlines (price_lines (codes "server") 0 b.server_prices)
    → s ≡ r ++ unlines (price_lines (codes "host") 0 b.host_prices)
    → t ≡ s ++ unlines (map class_line b.classes) → u ≡ t ++ unlines (codes "END" ∷ []) → u ≡ o ++ text_of (Plan b)
plan_appended b o p q r s t u hp hq hr hs ht hu =
    rw (hu, ht, hs, hr, hq, hp) (parts o (version ∷ codes "PLAN" ∷ []) (numbered (codes "cost") (b.cost ∷ []) ∷ [])
    (price_lines (codes "server") 0 b.server_prices) (price_lines (codes "host") 0 b.host_prices)
    (map class_line b.classes) (codes "END" ∷ []))
  where
    parts : (o : List ℕ) (x y z v w e : List (List ℕ))
        → (((((o ++ unlines x) ++ unlines y) ++ unlines z) ++ unlines v) ++ unlines w) ++ unlines e
        ≡ o ++ unlines (x ++ (y ++ ((z ++ (v ++ w)) ++ e)))
    parts o x y z v w e = simp (unlines-append, append_assoc)

-- the lines of a short set
pub shortage_appended : (t : Short) (o p q r s u : List ℕ) → p ≡ o ++ unlines (version ∷ codes "SHORT" ∷ [])
    → q ≡ p ++ unlines (map server_line t.servers)
    → r ≡ q ++ unlines (numbered (codes "demand") (t.demand ∷ []) ∷ [])
    → s ≡ r ++ unlines (numbered (codes "capacity") (t.capacity ∷ []) ∷ []) → u ≡ s ++ unlines (codes "END" ∷ [])
    → u ≡ o ++ text_of (Shortage t)
shortage_appended t o p q r s u hp hq hr hs hu =
    rw (hu, hs, hr, hq, hp) (parts o (version ∷ codes "SHORT" ∷ []) (map server_line t.servers)
    (numbered (codes "demand") (t.demand ∷ []) ∷ []) (numbered (codes "capacity") (t.capacity ∷ []) ∷ [])
    (codes "END" ∷ []))
  where
    parts : (o : List ℕ) (x y z v e : List (List ℕ))
        → ((((o ++ unlines x) ++ unlines y) ++ unlines z) ++ unlines v) ++ unlines e
        ≡ o ++ unlines (x ++ (y ++ (z ++ (v ++ e))))
    parts o x y z v e = simp (unlines-append, append_assoc)

-- no turn is left where servers or amounts have ended
pub none_left : (servers amounts : List ℕ) → (length servers ≡ 0) ⊎ (length amounts ≡ 0) → in_turn servers amounts ≡ []
none_left [] amounts h = refl
none_left (a ∷ servers) [] h = refl
none_left (a ∷ servers) (b ∷ amounts) (inl h) = absurd (omega (arith, h))
none_left (a ∷ servers) (b ∷ amounts) (inr h) = absurd (omega (arith, h))
