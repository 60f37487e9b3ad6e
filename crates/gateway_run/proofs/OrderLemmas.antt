-- In which order the slots of inputs are looked at.
use Rattle.std.proofs.Common.{◌≡◌, ◌⊎◌, ℕ, zero, suc, ◌<◌, ◌≤◌, inl, inr, sym, subst, arith}
use Rattle.std.proofs.lemmas.Bool.{cases_lt, cases_eq}
use Rattle.plp_config.specs.declared.config.Config.{Config}
use Rattle.common_plp.specs.Inputs.{place_of}
use Rattle.common_plp.specs.Sharing.{Sharing, Apart, Joint}
use Rattle.gateway_run.specs.Inputs.{IsBefore}
use Rattle.gateway_core.specs.Order.{turn_of}

-- The order of three numbers, the first of which tells most.
abbrev IsLess : ℕ → ℕ → ℕ → ℕ → ℕ → ℕ → Type 0
IsLess turn slot place other late behind =
    (turn < other) ⊎ ((turn ≡ other) × ((slot < late) ⊎ ((slot ≡ late) × (place < behind))))

less_still : (turn slot place other late behind sooner : ℕ) → sooner ≤ slot → IsLess turn slot place other late behind
    → IsLess turn sooner place other late behind
less_still turn slot place other late behind sooner le l =
    elim l [
      | inl less ↦ inl less
      | inr same ↦ inr (
        same.0,
        elim same.1 [
          | inl less ↦ inl (omega (arith, less, le))
          | inr even ↦ elim (cases_lt sooner late) [
            | inl less ↦ inl less
            | inr ge ↦ inr ((let e = even.0 in omega (arith, e, ge, le)), even.1)
          ]
        ],
      )
    ]

less_on : (t s p u r q v w x : ℕ) → IsLess t s p u r q → IsLess u r q v w x → IsLess t s p v w x
less_on t s p u r q v w x a b =
    elim a [
      | inl first ↦ elim b [
        | inl second ↦ inl (omega (arith, first, second))
        | inr level ↦ inl (let e = level.0 in omega (arith, first, e))
      ]
      | inr even ↦ elim b [
        | inl second ↦ inl (let e = even.0 in omega (arith, second, e))
        | inr level ↦ inr (
          (let e = even.0 in let f = level.0 in omega (arith, e, f)),
          elim even.1 [
            | inl less ↦ elim level.1 [
              | inl more ↦ inl (omega (arith, less, more))
              | inr same ↦ inl (let e = same.0 in omega (arith, less, e))
            ]
            | inr same ↦ elim level.1 [
              | inl more ↦ inl (let e = same.0 in omega (arith, more, e))
              | inr last ↦ inr (
                (let e = same.0 in let f = last.0 in omega (arith, e, f)),
                (let e = same.1 in let f = last.1 in omega (arith, e, f)),
              )
            ]
          ],
        )
      ]
    ]

never_less : (t s p : ℕ) → IsLess t s p t s p → ⊥
never_less t s p l =
    elim l [
      | inl less ↦ absurd (omega (arith, less))
      | inr even ↦ elim even.1 [
        | inl less ↦ absurd (omega (arith, less))
        | inr same ↦ absurd (let e = same.1 in omega (arith, e))
      ]
    ]

less_or : (t s p u r q : ℕ) → IsLess t s p u r q ⊎ (p ≡ q) ⊎ IsLess u r q t s p
less_or t s p u r q =
    elim (cases_lt t u) [
      | inl first ↦ inl (inl first)
      | inr ge ↦ elim (cases_lt u t) [
        | inl second ↦ inr (inr (inl second))
        | inr le ↦
            let even : t ≡ u = omega (arith, ge, le) in
            elim (cases_lt s r) [
              | inl less ↦ inl (inr (even, inl less))
              | inr high ↦ elim (cases_lt r s) [
                | inl more ↦ inr (inr (inr (sym even, inl more)))
                | inr low ↦
                    let same : s ≡ r = omega (arith, high, low) in
                    elim (cases_lt p q) [
                      | inl sooner ↦ inl (inr (even, inr (same, sooner)))
                      | inr not_sooner ↦ elim (cases_lt q p) [
                        | inl later ↦ inr (inr (inr (sym even, inr (sym same, later))))
                        | inr not_later ↦ inr (inl (omega (arith, not_sooner, not_later)))
                      ]
                    ]
              ]
            ]
      ]
    ]

-- an earlier slot of the same input is looked at before
pub earlier_still : (way : Sharing) (c : Config) (input sooner slot other late : ℕ) → sooner ≤ slot
    → IsBefore way c input slot other late → IsBefore way c input sooner other late
earlier_still Apart c input sooner slot other late le before = before
earlier_still Joint c input sooner slot other late le before =
    less_still (turn_of c (place_of Joint c input)) slot (place_of Joint c input) (turn_of c (place_of Joint c other))
    late
    (place_of Joint c other) sooner le before

pub before_on : (way : Sharing) (c : Config) (input slot other late third last : ℕ)
    → IsBefore way c input slot other late
    → IsBefore way c other late third last → IsBefore way c input slot third last
before_on Apart c input slot other late third last a b = omega (arith, a, b)
before_on Joint c input slot other late third last a b =
    less_on (turn_of c (place_of Joint c input)) slot (place_of Joint c input) (turn_of c (place_of Joint c other)) late
    (place_of Joint c other) (turn_of c (place_of Joint c third)) last (place_of Joint c third) a b

pub never_before : (way : Sharing) (c : Config) (input slot : ℕ) → IsBefore way c input slot input slot → ⊥
never_before Apart c input slot before = absurd (omega (arith, before))
never_before Joint c input slot before =
    never_less (turn_of c (place_of Joint c input)) slot (place_of Joint c input) before

-- Of two inputs one is looked at before the other.
pub before_or : (way : Sharing) (c : Config) (input slot other late : ℕ)
    → IsBefore way c input slot other late ⊎ (input ≡ other) ⊎ IsBefore way c other late input slot
before_or Apart c input slot other late =
    elim (cases_lt input other) [
      | inl less ↦ inl less
      | inr ge ↦ elim (cases_lt other input) [
        | inl more ↦ inr (inr more)
        | inr le ↦ inr (inl (omega (arith, ge, le)))
      ]
    ]
before_or Joint c input slot other late =
    elim (less_or (turn_of c (place_of Joint c input)) slot (place_of Joint c input)
    (turn_of c (place_of Joint c other)) late
    (place_of Joint c other)) [
      | inl before ↦ inl before
      | inr more ↦ elim more [ inl same ↦ inr (inl (omega (arith, same))) | inr behind ↦ inr (inr behind) ]
    ]

-- ---- the first one

-- the first input below a count, by a slot of each, of which something holds
pub record IsFirstOf (way : Sharing) (c : Config) (P : ℕ → Type 0) (slot : ℕ → ℕ) (count input : ℕ) : Type 0 where
  pub inside : input < count
  pub holds : P input
  pub first : (other : ℕ) → other < count → IsBefore way c other (slot other) input (slot input) → ¬ (P other)

pub none_or_first : (way : Sharing) (c : Config) (P : ℕ → Type 0) (slot : ℕ → ℕ)
    → ((input : ℕ) → (P input) ⊎ (¬ (P input))) → (count : ℕ)
    → ((input : ℕ) → input < count → ¬ (P input)) ⊎ ((input : ℕ) × IsFirstOf way c P slot count input)
none_or_first way c P slot decide zero = inl (λ input lt. absurd (omega (arith, lt)))
none_or_first way c P slot decide (suc n) =
    elim (none_or_first way c P slot decide n) [
      | inl none ↦ elim (decide n) [
        | inr never ↦ inl (λ input lt here. elim (cases_eq input n) [
          | inl same ↦ never (subst P same here)
          | inr differ ↦ none input (omega (arith, lt, differ)) here
        ])
        | inl last ↦ inr (
          n,
          record {
            inside = omega arith;
            holds = last;
            first = λ other lt before here. elim (cases_eq other n) [
              | inl same ↦ never_before way c n (slot n)
                  (subst (λ (k : ℕ). IsBefore way c k (slot k) n (slot n)) same before)
              | inr differ ↦ none other (omega (arith, lt, differ)) here
            ];
          },
        )
      ]
      | inr found ↦
          let f = found.1 in
          let within = f.inside in
          elim (decide n) [
            | inr never ↦ inr (
              found.0,
              record {
                inside = omega (arith, within);
                holds = f.holds;
                first = λ other lt before here. elim (cases_eq other n) [
                  | inl same ↦ never (subst P same here)
                  | inr differ ↦ f.first other (omega (arith, lt, differ)) before here
                ];
              },
            )
            | inl last ↦ elim (before_or way c n (slot n) found.0 (slot found.0)) [
              | inl sooner ↦ inr (
                n,
                record {
                  inside = omega arith;
                  holds = last;
                  first = λ other lt before here. elim (cases_eq other n) [
                    | inl same ↦ never_before way c n (slot n)
                        (subst (λ (k : ℕ). IsBefore way c k (slot k) n (slot n)) same before)
                    | inr differ ↦ f.first other (omega (arith, lt, differ))
                        (before_on way c other (slot other) n (slot n) found.0 (slot found.0) before sooner) here
                  ];
                },
              )
              | inr others ↦ elim others [
                | inl same ↦ absurd (omega (arith, same, within))
                | inr later ↦ inr (
                  found.0,
                  record {
                    inside = omega (arith, within);
                    holds = f.holds;
                    first = λ other lt before here. elim (cases_eq other n) [
                      | inl same ↦ never_before way c n (slot n) (before_on way c n (slot n) found.0
                          (slot found.0) n (slot n)
                          (subst (λ (k : ℕ). IsBefore way c k (slot k) found.0 (slot found.0)) same before) later)
                      | inr differ ↦ f.first other (omega (arith, lt, differ)) before here
                    ];
                  },
                )
              ]
            ]
          ]
    ]
