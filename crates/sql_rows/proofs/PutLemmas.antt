-- The effect on the content of a row inserted into each table or deleted from it.
use Rattle.std.proofs.Common.{◌≡◌, ℕ, pos, [], ◌∷◌, cond, Some, None, refl, sym, ap, subst, ◌∙◌, arith}
use Rattle.std.specs.Prelude.{option_map, unwrap_or}
use Rattle.std.specs.Ordering.{nat_cmp}
use Rattle.std.specs.Cmp.{nat_cmp_total, eq_by_cmp_equiv}
use Rattle.std.specs.FinMap.{FinMap, get, insert, remove, get-insert, get-remove, nat_cmp-IsAntisymmetric}
use Rattle.sqlite.specs.declared.types.Value.{Value}
use Rattle.sqlite.specs.declared.types.Value.TheVariants.{Int}
use Rattle.sqlite.specs.Effect.{Database}
use Rattle.sqlite.specs.Tree.{Trees}
use Rattle.numbers.specs.declared.spid.Spid.{Spid}
use Rattle.numbers.specs.Subjects.{Subject}
use Rattle.settle.specs.Abstraction.{wait_key_of}
use Rattle.settle.specs.declared.rows.WaitKey.{WaitKey as WaitImpl}
use Rattle.model.specs.Content.{Content, BlockRow, VersionRow, BroadcastRow, BroadcastKey, ClockRow, broadcast_cmp, wait_cmp}
use Rattle.model.specs.Windows.{Windows}
use Rattle.version.specs.Abstraction.{no_windows}
use Rattle.sql_rows.specs.Clocks.{StoredClock, clock_row, windows_named, with_windows}
use Rattle.numbers.specs.Routings.{Routing}
use Rattle.sql_rows.specs.Tables.{the_schema}
use Rattle.sql_rows.specs.Shaped.{AreShaped}
use Rattle.sql_rows.specs.Values.{spid_value}
use Rattle.sql_rows.specs.Versions.{bare, next_of, rerouted, version_entry, version_row, version_params}
use Rattle.sql_rows.specs.Over.{over}
use Rattle.sql_rows.specs.Content.{next_entry, next_params, content_in, versions_in, nexts_in, carrier_entry, lrn_entry, code_entry, block_entry, broadcast_entry, wait_entry, set_entry, clock_entry, sets_in, clocks_in, clock_from, set_params, carrier_params, owner_params, block_params, broadcast_params, wait_params, clock_params, stored, broadcast_key_params, wait_key_params}
use Rattle.sql_rows.specs.Written.{IsFrame, Removed, Replaced}
use Rattle.sql_rows.specs.declared.statement.Table.TheVariants.{Carrier, Lrn, Code, Block, Version, Broadcast, Wait, Clock, NextRouting, WindowSet}
use Rattle.model.proofs.KeyOrders.{broadcast_total, broadcast_exact, wait_total, wait_exact}
use Rattle.sql_rows.proofs.KeyTests.{next_tests, set_tests, carrier_tests, lrn_tests, code_tests, block_tests, version_tests, clock_tests, broadcast_tests, wait_tests}
use Rattle.sql_rows.proofs.Casts.{next_cast, set_cast, next_in, carrier_cast, lrn_cast, code_cast, block_cast, version_cast, broadcast_cast, wait_cast, clock_cast}
use Rattle.sql_rows.proofs.TableLemmas.{Leaves, framed_twice, put, taken, content_framed}
use Rattle.sql_rows.proofs.Over.{over-remove}
use Rattle.sql_rows.proofs.Rerouted.{row-put}
use Rattle.sql_rows.proofs.Backs.{carrier_back}
use Rattle.sql_rows.proofs.Inversions.{map_some}

-- Holds if the schema and the shapes are right, and this is the content.
pub record Became (new : Database) (wanted : Content) : Type 0 where
  pub schema : new.schema ≡ the_schema
  pub shaped : AreShaped new.trees
  pub is : content_in new.trees ≡ wanted

module _ (old new : Database) (shaped : AreShaped old.trees) where
  pub put_carrier : (s : Spid)
      → Replaced Carrier (spid_value s.number ∷ []) (carrier_params s.number) old new
      → Became new (record (content_in old.trees) {
        carriers = insert (content_in old.trees).carriers s.number tt;
      })
  put_carrier s r =
      let l = put Carrier nat_cmp nat_cmp_total nat_cmp-IsAntisymmetric carrier_entry s.number
      (spid_value s.number ∷ []) (carrier_tests s) (carrier_params s.number)
      (λ mid. next_in mid 0 ∷ carrier_params s.number) tt (λ mid. refl)
      (λ mid. carrier_back (next_in mid 0) s) old new (λ mid. carrier_cast mid s.number) shaped r in
      record {
        schema = (r.added.adds (next_in r.added.base 0 ∷ carrier_params s.number)
            (carrier_cast r.added.base s.number)).schema;
        shaped = l.shaped;
        is = content_framed Carrier old.trees new.trees l.frame
            ∙ ap (λ m. record (content_in old.trees) { carriers = m }) l.map;
      }

  pub put_lrn : (n v : ℕ) → lrn_entry (stored (owner_params n v)) ≡ Some (n, v)
      → Replaced Lrn (Int (pos n) ∷ []) (owner_params n v) old new
      → Became new (record (content_in old.trees) { lrns = insert (content_in old.trees).lrns n v })
  put_lrn n v back r =
      let l = put Lrn nat_cmp nat_cmp_total nat_cmp-IsAntisymmetric lrn_entry n (Int (pos n) ∷ [])
      (lrn_tests n) (owner_params n v) (λ mid. stored (owner_params n v)) v (λ mid. refl)
      (λ mid. back) old new (λ mid. lrn_cast mid n v) shaped r in
      record {
        schema = (r.added.adds (stored (owner_params n v)) (lrn_cast r.added.base n v)).schema;
        shaped = l.shaped;
        is = content_framed Lrn old.trees new.trees l.frame
            ∙ ap (λ m. record (content_in old.trees) { lrns = m }) l.map;
      }

  pub put_code : (n v : ℕ) → code_entry (stored (owner_params n v)) ≡ Some (n, v)
      → Replaced Code (Int (pos n) ∷ []) (owner_params n v) old new
      → Became new (record (content_in old.trees) {
        codes =
            insert (content_in old.trees).codes n v;
      })
  put_code n v back r =
      let l = put Code nat_cmp nat_cmp_total nat_cmp-IsAntisymmetric code_entry n (Int (pos n) ∷ [])
      (code_tests n) (owner_params n v) (λ mid. stored (owner_params n v)) v (λ mid. refl)
      (λ mid. back) old new (λ mid. code_cast mid n v) shaped r in
      record {
        schema = (r.added.adds (stored (owner_params n v)) (code_cast r.added.base n v)).schema;
        shaped = l.shaped;
        is = content_framed Code old.trees new.trees l.frame
            ∙ ap (λ m. record (content_in old.trees) { codes = m }) l.map;
      }

  pub put_block : (n : ℕ) (v : BlockRow) → block_entry (stored (block_params n v)) ≡ Some (n, v)
      → Replaced Block (Int (pos n) ∷ []) (block_params n v) old new
      → Became new (record (content_in old.trees) {
        blocks = insert (content_in old.trees).blocks n v;
      })
  put_block n v back r =
      let l = put Block nat_cmp nat_cmp_total nat_cmp-IsAntisymmetric block_entry n
      (Int (pos n) ∷ []) (block_tests n) (block_params n v) (λ mid. stored (block_params n v)) v
      (λ mid. refl) (λ mid. back) old new (λ mid. block_cast mid n v) shaped r in
      record {
        schema = (r.added.adds (stored (block_params n v)) (block_cast r.added.base n v)).schema;
        shaped = l.shaped;
        is = content_framed Block old.trees new.trees l.frame
            ∙ ap (λ m. record (content_in old.trees) { blocks = m }) l.map;
      }

  pub put_set : (n : ℕ) (w : Windows) → set_entry (stored (set_params n w)) ≡ Some (n, w)
      → Replaced WindowSet (Int (pos n) ∷ []) (set_params n w) old new →
      Became new (record (content_in old.trees) {
        sets = insert (content_in old.trees).sets n w;
        clock = clock_from (insert (content_in old.trees).sets n w) (clocks_in (old.trees 21));
      })
  put_set n w back r =
      let l = put WindowSet nat_cmp nat_cmp_total nat_cmp-IsAntisymmetric set_entry n
      (Int (pos n) ∷ []) (set_tests n) (set_params n w) (λ mid. stored (set_params n w)) w
      (λ mid. refl) (λ mid. back) old new (λ mid. set_cast mid n w) shaped r in
      record {
        schema = (r.added.adds (stored (set_params n w)) (set_cast r.added.base n w)).schema;
        shaped = l.shaped;
        is = content_framed WindowSet old.trees new.trees l.frame
            ∙ ap (λ m. record (content_in old.trees) {
              sets = m;
              clock = clock_from m (clocks_in (old.trees 21));
            }) l.map;
      }

  pub put_clock : (c : StoredClock) → clock_entry (stored (clock_params 0 c)) ≡ Some (0, c)
      → Replaced Clock (Int (pos 0) ∷ []) (clock_params 0 c) old new
      → Became new (record (content_in old.trees) {
        clock = Some (with_windows (content_in old.trees).sets c);
      })
  put_clock c back r =
      let l = put Clock nat_cmp nat_cmp_total nat_cmp-IsAntisymmetric clock_entry 0
      (Int (pos 0) ∷ []) (clock_tests 0) (clock_params 0 c) (λ mid. stored (clock_params 0 c)) c
      (λ mid. refl) (λ mid. back) old new (λ mid. clock_cast mid 0 c) shaped r in
      record {
        schema = (r.added.adds (stored (clock_params 0 c)) (clock_cast r.added.base 0 c)).schema;
        shaped = l.shaped;
        is = content_framed Clock old.trees new.trees l.frame
            ∙ ap (λ o. record (content_in old.trees) {
              clock = option_map (with_windows (sets_in (old.trees 17))) o;
            }) (ap (λ m. get m 0) l.map ∙ get-insert nat_cmp_total _ 0 c 0);
      }

  pub put_broadcast : (k : BroadcastKey) (v : BroadcastRow)
      → ((rowid : Value) → broadcast_entry (rowid ∷ broadcast_params k v) ≡ Some (k, v))
      → Replaced Broadcast (broadcast_key_params k) (broadcast_params k v) old new
      → Became new (record (content_in old.trees) {
        broadcasts = insert (content_in old.trees).broadcasts k v;
      })
  put_broadcast k v back r =
      let l = put Broadcast broadcast_cmp broadcast_total broadcast_exact broadcast_entry k
      (broadcast_key_params k) (broadcast_tests k) (broadcast_params k v)
      (λ mid. next_in mid 8 ∷ broadcast_params k v) v (λ mid. refl) (λ mid. back (next_in mid 8))
      old new (λ mid. broadcast_cast mid k v) shaped r in
      record {
        schema = (r.added.adds (next_in r.added.base 8 ∷ broadcast_params k v)
            (broadcast_cast r.added.base k v)).schema;
        shaped = l.shaped;
        is = content_framed Broadcast old.trees new.trees l.frame
            ∙ ap (λ m. record (content_in old.trees) { broadcasts = m }) l.map;
      }

  pub put_wait : (c : WaitImpl) (v : Subject)
      → ((rowid : Value) → wait_entry (rowid ∷ wait_params (wait_key_of c) v)
      ≡ Some (wait_key_of c, v))
      → Replaced Wait (wait_key_params (wait_key_of c)) (wait_params (wait_key_of c) v) old new
      → Became new (record (content_in old.trees) {
        waits = insert (content_in old.trees).waits (wait_key_of c) v;
      })
  put_wait c v back r =
      let l = put Wait wait_cmp wait_total wait_exact wait_entry (wait_key_of c)
      (wait_key_params (wait_key_of c)) (wait_tests c.carrier c.minute.number c.id c.attempt)
      (wait_params (wait_key_of c) v) (λ mid. next_in mid 10 ∷ wait_params (wait_key_of c) v) v
      (λ mid. refl) (λ mid. back (next_in mid 10)) old new (λ mid. wait_cast mid (wait_key_of c) v)
      shaped r in
      record {
        schema = (r.added.adds (next_in r.added.base 10 ∷ wait_params (wait_key_of c) v)
            (wait_cast r.added.base (wait_key_of c) v)).schema;
        shaped = l.shaped;
        is = content_framed Wait old.trees new.trees l.frame
            ∙ ap (λ m. record (content_in old.trees) { waits = m }) l.map;
      }

  pub take_broadcast : (k : BroadcastKey) → Removed Broadcast (broadcast_key_params k) old new
      → Became new (record (content_in old.trees) {
        broadcasts = remove (content_in old.trees).broadcasts k;
      })
  take_broadcast k r =
      let l = taken Broadcast broadcast_cmp broadcast_total broadcast_exact broadcast_entry k
      (broadcast_key_params k) (broadcast_tests k) old new shaped r in
      record {
        schema = r.schema;
        shaped = l.shaped;
        is = content_framed Broadcast old.trees new.trees l.frame
            ∙ ap (λ m. record (content_in old.trees) { broadcasts = m }) l.map;
      }

  pub take_wait : (c : WaitImpl) → Removed Wait (wait_key_params (wait_key_of c)) old new
      → Became new (record (content_in old.trees) {
        waits = remove (content_in old.trees).waits (wait_key_of c);
      })
  take_wait c r =
      let l = taken Wait wait_cmp wait_total wait_exact wait_entry (wait_key_of c)
      (wait_key_params (wait_key_of c)) (wait_tests c.carrier c.minute.number c.id c.attempt) old
      new shaped r in
      record {
        schema = r.schema;
        shaped = l.shaped;
        is = content_framed Wait old.trees new.trees l.frame
            ∙ ap (λ m. record (content_in old.trees) { waits = m }) l.map;
      }

-- ---- rows of two tables

-- Putting the set's row and then the clock's changes both in the content.
pub put_set_clock : (old mid new : Database) → AreShaped old.trees → (w : Windows) (c : StoredClock)
    → set_entry (stored (set_params c.present w)) ≡ Some (c.present, w)
    → clock_entry (stored (clock_params 0 c)) ≡ Some (0, c) →
    Replaced WindowSet (Int (pos c.present) ∷ []) (set_params c.present w) old mid
    → Replaced Clock (Int (pos 0) ∷ []) (clock_params 0 c) mid new →
    Became new (record (content_in old.trees) {
      sets = insert (content_in old.trees).sets c.present w;
      clock = Some (clock_row c.minute c.next_id c.present w);
    })
put_set_clock old mid new shaped w c set_back clock_back first second =
    let a = put_set old mid shaped c.present w set_back first in
    let b = put_clock mid new a.shaped c clock_back second in
    record {
      schema = b.schema;
      shaped = b.shaped;
      is = b.is ∙ ap (λ (x : Content). record x { clock = Some (with_windows x.sets c) }) a.is
          ∙ ap (λ o. record (content_in old.trees) {
            sets = insert (content_in old.trees).sets c.present w;
            clock = Some (clock_row c.minute c.next_id c.present (unwrap_or o no_windows));
          }) (get-insert nat_cmp_total (content_in old.trees).sets c.present w c.present
          ∙ ap (λ b. cond b (Some w) (get (content_in old.trees).sets c.present))
          ((eq_by_cmp_equiv nat_cmp_total).refl c.present));
    }

-- Putting a set's row, or the clock's, changes only its table.
pub set_framed : (old new : Database) (n : ℕ) (w : Windows)
    → Replaced WindowSet (Int (pos n) ∷ []) (set_params n w) old new
    → IsFrame WindowSet old.trees new.trees
set_framed old new n w r =
    framed_twice WindowSet old.trees r.mid.trees new.trees r.removed.frame
    (r.added.adds (stored (set_params n w)) (set_cast r.added.base n w)).frame

pub clock_framed : (old new : Database) (c : StoredClock)
    → Replaced Clock (Int (pos 0) ∷ []) (clock_params 0 c) old new
    → IsFrame Clock old.trees new.trees
clock_framed old new c r =
    framed_twice Clock old.trees r.mid.trees new.trees r.removed.frame
    (r.added.adds (stored (clock_params 0 c)) (clock_cast r.added.base 0 c)).frame

module _ (old mid new : Database) (shaped : AreShaped old.trees) (n : ℕ) where
  -- Holds if the map of versions, and no other table, was changed so.
  abbrev VersionLeft : (FinMap nat_cmp VersionRow → FinMap nat_cmp VersionRow) → Type 0
  VersionLeft change = Leaves Version nat_cmp version_entry change old.trees mid.trees

  abbrev NextLeft : (FinMap nat_cmp Routing → FinMap nat_cmp Routing) → Type 0
  NextLeft change = Leaves NextRouting nat_cmp next_entry change mid.trees new.trees

  version_put : (v w : VersionRow) → version_entry (version_row n v) ≡ Some (n, w)
      → Replaced Version (Int (pos n) ∷ []) (version_params n v) old mid
      → VersionLeft (λ m. insert m n w)
  version_put v w back r = put Version nat_cmp nat_cmp_total nat_cmp-IsAntisymmetric version_entry n
      (Int (pos n) ∷ []) (version_tests n) (version_params n v) (λ db. version_row n v) w
      (λ db. refl) (λ db. back) old mid (λ db. version_cast db n v) shaped r

  -- The schema and the shapes are right between the two changes.
  pub version_between : (v : VersionRow) → version_entry (version_row n v) ≡ Some (n, bare v)
      → Replaced Version (Int (pos n) ∷ []) (version_params n v) old mid → (mid.schema ≡ the_schema)
      × AreShaped mid.trees
  version_between v back r = (
    (r.added.adds (version_row n v) (version_cast r.added.base n v)).schema,
    (version_put v (bare v) back r).shaped,
  )

  next_put : (r : Routing) → AreShaped mid.trees → next_entry (stored (next_params n r))
      ≡ Some (n, r) → Replaced NextRouting (Int (pos n) ∷ []) (next_params n r) mid new
      → NextLeft (λ m. insert m n r)
  next_put r there back did =
      put NextRouting nat_cmp nat_cmp_total nat_cmp-IsAntisymmetric next_entry n (Int (pos n) ∷ [])
      (next_tests n) (next_params n r) (λ db. stored (next_params n r)) r (λ db. refl) (λ db. back)
      mid new (λ db. next_cast db n r) there did

  next_taken : AreShaped mid.trees → Removed NextRouting (Int (pos n) ∷ []) mid new
      → NextLeft (λ m. remove m n)
  next_taken there did = taken NextRouting nat_cmp nat_cmp_total nat_cmp-IsAntisymmetric next_entry
      n (Int (pos n) ∷ []) (next_tests n) mid new there did

  -- The first change leaves the routings unchanged.
  same_nexts : (change : FinMap nat_cmp VersionRow → FinMap nat_cmp VersionRow) → VersionLeft change
      → nexts_in (mid.trees 16) ≡ nexts_in (old.trees 16)
  same_nexts change l = ap nexts_in (l.frame NextRouting (λ e. omega arith))

  -- The content after both changes.
  together : (change : FinMap nat_cmp VersionRow → FinMap nat_cmp VersionRow)
      (turn : FinMap nat_cmp Routing → FinMap nat_cmp Routing) → VersionLeft change → NextLeft turn
      →
      content_in new.trees ≡ record (content_in old.trees) {
        versions = over rerouted (change (versions_in (old.trees 18)))
            (turn (nexts_in (old.trees 16)));
      }
  together change turn first second =
      content_framed NextRouting mid.trees new.trees second.frame
      ∙ ap (λ (c : Content). record c {
        versions = over rerouted (versions_in (mid.trees 18)) (nexts_in (new.trees 16));
      }) (content_framed Version old.trees mid.trees first.frame)
      ∙ ap (λ m. record (content_in old.trees) {
        versions = over rerouted m (nexts_in (new.trees 16));
      }) first.map
      ∙ ap (λ m. record (content_in old.trees) {
        versions = over rerouted (change (versions_in (old.trees 18))) m;
      }) (second.map ∙ ap turn (same_nexts change first))

  -- Putting a version that sends a modify, and its routing, inserts the version.
  pub put_modified : (v : VersionRow) (r : Routing) → next_of v.status ≡ Some r
      → version_entry (version_row n v) ≡ Some (n, bare v) → next_entry (stored (next_params n r))
      ≡ Some (n, r) →
      Replaced Version (Int (pos n) ∷ []) (version_params n v) old mid
      → Replaced NextRouting (Int (pos n) ∷ []) (next_params n r) mid new
      → Became new (record (content_in old.trees) {
        versions = insert (content_in old.trees).versions n v;
      })
  put_modified v r sends back next_back first second =
      let a = version_put v (bare v) back first in
      let b = next_put r a.shaped next_back second in
      let more = nexts_in (old.trees 16) in
      record {
        schema = (second.added.adds (stored (next_params n r))
            (next_cast second.added.base n r)).schema;
        shaped = b.shaped;
        is = together (λ m. insert m n (bare v)) (λ m. insert m n r) a b
            ∙ ap (λ m. record (content_in old.trees) { versions = m })
            (row-put (versions_in (old.trees 18)) more (insert more n r) n v (put_at more r
            ∙ sym sends) (λ j apart. get-insert nat_cmp_total more n r j
            ∙ ap (λ b. cond b (Some r) (get more j)) apart));
      }
    where
      put_at : (more : FinMap nat_cmp Routing) (r : Routing) → get (insert more n r) n ≡ Some r
      put_at more r = get-insert nat_cmp_total more n r n ∙ ap (λ b. cond b (Some r) (get more n))
          ((eq_by_cmp_equiv nat_cmp_total).refl n)

  -- Putting any other version, and deleting its routing, inserts the version.
  pub put_plain : (v : VersionRow) → next_of v.status ≡ None
      → version_entry (version_row n v) ≡ Some (n, bare v) →
      Replaced Version (Int (pos n) ∷ []) (version_params n v) old mid
      → Removed NextRouting (Int (pos n) ∷ []) mid new → Became new (record (content_in old.trees) {
        versions = insert (content_in old.trees).versions n v;
      })
  put_plain v sends back first second =
      let a = version_put v (bare v) back first in
      let b = next_taken a.shaped second in
      let more = nexts_in (old.trees 16) in
      record {
        schema = second.schema;
        shaped = b.shaped;
        is = together (λ m. insert m n (bare v)) (λ m. remove m n) a b
            ∙ ap (λ m. record (content_in old.trees) { versions = m })
            (row-put (versions_in (old.trees 18)) more (remove more n) n v (taken_at more
            ∙ sym sends) (λ j apart. get-remove nat_cmp_total more n j
            ∙ ap (λ b. cond b None (get more j)) apart));
      }
    where
      taken_at : (more : FinMap nat_cmp Routing) → get (remove more n) n ≡ None
      taken_at more = get-remove nat_cmp_total more n n ∙ ap (λ b. cond b None (get more n))
          ((eq_by_cmp_equiv nat_cmp_total).refl n)

-- Deleting a version's row removes the version, whether or not a routing is stored for it.
pub take_version : (old new : Database) → AreShaped old.trees → (n : ℕ)
    → Removed Version (Int (pos n) ∷ []) old new
    → Became new (record (content_in old.trees) {
      versions = remove (content_in old.trees).versions n;
    })
take_version old new shaped n r =
    let l = taken Version nat_cmp nat_cmp_total nat_cmp-IsAntisymmetric version_entry n
    (Int (pos n) ∷ []) (version_tests n) old new shaped r in
    let more = nexts_in (old.trees 16) in
    record {
      schema = r.schema;
      shaped = l.shaped;
      is = content_framed Version old.trees new.trees l.frame
          ∙ ap (λ m. record (content_in old.trees) { versions = over rerouted m more }) l.map
          ∙ ap (λ m. record (content_in old.trees) { versions = m })
          (over-remove rerouted (versions_in (old.trees 18)) more more n (λ j apart. refl));
    }

-- The clock's row has the windows of its set.
pub clock_joins : (db : Trees) (r : ClockRow) → (content_in db).clock ≡ Some r
    → windows_named (content_in db).sets r.present.number ≡ r.present.windows
clock_joins db r e =
    let a = map_some (with_windows (sets_in (db 17))) (get (clocks_in (db 21)) 0) r e in
    subst (λ (c : ClockRow). windows_named (content_in db).sets c.present.number
    ≡ c.present.windows) a.2 refl

-- Putting only a version's row, as its table has it, changes only that table.
pub version_left : (old new : Database) (n : ℕ) (v : VersionRow)
    → version_entry (version_row n v) ≡ Some (n, bare v)
    → Replaced Version (Int (pos n) ∷ []) (version_params n v) old new →
    (new.schema ≡ the_schema) × (AreShaped old.trees
    → Leaves Version nat_cmp version_entry (λ m. insert m n (bare v)) old.trees new.trees)
    × IsFrame Version old.trees new.trees
version_left old new n v back r =
    let added = r.added.adds (version_row n v) (version_cast r.added.base n v) in (
      added.schema,
      λ shaped. put Version nat_cmp nat_cmp_total nat_cmp-IsAntisymmetric version_entry n
          (Int (pos n) ∷ []) (version_tests n) (version_params n v) (λ db. version_row n v) (bare v)
          (λ db. refl) (λ db. back) old new (λ db. version_cast db n v) shaped r,
      framed_twice Version old.trees r.mid.trees new.trees r.removed.frame added.frame,
    )
