mod HeldObjects
